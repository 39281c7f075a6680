-- A writer for which no answer of the office waits isn't about to dial, after every list of events.
use Rattle.std.proofs.Common.{◌≡◌, ℕ, Bool, true, false, List, [], ◌∷◌, length, Option, Some, None, IfSome, refl, sym, ap, subst}
use Rattle.std.specs.Prelude.{◌&&◌, ◌||◌, not, nat_lt, is_none}
use Rattle.std.proofs.lemmas.Bool.{false≢true}
use Rattle.std.proofs.lemmas.Option.{none-some}
use Rattle.hd_base.specs.declared.numbers.BlockId.{BlockId}
use Rattle.hd_base.specs.declared.numbers.NodeId.{NodeId}
use Rattle.hd_base.specs.declared.numbers.Stamp.{Stamp}
use Rattle.op_headers.specs.declared.ops.Op.{Op}
use Rattle.name_core.specs.Offices.{answer_to}
use Rattle.writer_core.specs.declared.actions.Action.{Action}
use Rattle.writer_core.specs.declared.actions.Action.TheVariants as action
use Rattle.writer_core.specs.declared.commands.Command.{Command}
use Rattle.writer_core.specs.declared.phases.Phase.{Phase}
use Rattle.writer_core.specs.declared.phases.Phase.TheVariants as phase
use Rattle.writer_core.specs.declared.phases.Setup.{Setup}
use Rattle.writer_core.specs.declared.phases.Waiting.{Waiting}
use Rattle.writer_core.specs.declared.records.WriterRecord.{WriterRecord}
use Rattle.writer_core.specs.Requests.{request_for}
use Rattle.writer_core.specs.Transitions.{Step, given, step_in, own_step, dial_step_as, open_step, completed_step, granted, dialled, is_action}
use Rattle.writer_core.specs.Transitions as writer
use Rattle.recovery_core.specs.declared.primary.OwnStep.{OwnStep}
use Rattle.recovery_core.specs.declared.primary.OwnStep.TheVariants as own_step_of
use Rattle.recovery_core.specs.Primaries as primary
use Rattle.world.specs.declared.events.Caller.{Caller}
use Rattle.world.specs.declared.events.Caller.TheVariants as caller
use Rattle.world.specs.declared.events.Delivery.{Delivery}
use Rattle.world.specs.declared.events.Delivery.TheVariants as delivery
use Rattle.world.specs.declared.events.Direction.{Direction}
use Rattle.world.specs.declared.events.Direction.TheVariants as direction
use Rattle.world.specs.declared.events.Event.{Event}
use Rattle.world.specs.declared.events.Event.TheVariants as event
use Rattle.world.specs.declared.events.OwnStep.TheVariants as own
use Rattle.world.specs.declared.events.OwnStep as events
use Rattle.world.specs.declared.events.TakenCommand.{TakenCommand}
use Rattle.world.specs.Parts.{Upper, by_writer, by_member, by_reader, by_primary, Told, Writing, Leading, Primary, no_primary, was_told, leads, has_led}
use Rattle.world.specs.Worlds.{World, Change, apply, start}
use Rattle.world.specs.Connections.{Next, next_down, next_up, down_taken, up_taken, is_served, is_conn, is_alive}
use Rattle.world.specs.Nodes.{lower_down, lower_ready, mirror_up}
use Rattle.world.specs.Clients.{did, did_step, dialled_change, dialling, rest_in, is_formed, ruled, command_bytes, is_empty, takes_given, takes_command, writer_step, writer_up, own_reader, reader_up}
use Rattle.world.specs.Primaries.{own_recover, own_primary, primary_up, writer_asks, primary_commits, primary_asks, office_event}
use Rattle.world.specs.Restarts.{restart}
use Rattle.world.specs.Enabled.{is_deed, is_question}
use Rattle.world.specs.Events.{changed, own_change, down_as, down_event, ready_event, unless_fails, upper_up, up_as, up_event, fault_event, lost, stop, where_so, outcome, after_event, happens, run}
use Rattle.play_model.proofs.WorldLaws.FactTables.{put-each, when-each, and-right}
use Rattle.play_model.proofs.WorldLaws.SessionAsides.{Aside, lower-down-aside, lower-ready-aside, mirror-up-aside, own-reader-aside, reader-up-aside, own-recover-aside, own-primary-aside, primary-up-aside}
use Rattle.world_settling.proofs.WorldTexts.Clients.{none-told}
use Rattle.play_settling.specs.Settling.{ActOrAsk}
use Rattle.play_settling.proofs.Steps.{dials, Undialled, never, is_plain, own-plain, step-phase, hears-undialled, dialled-phase}

-- where no answer waits, the writer isn't about to dial
abbrev pub IsReady : Writing → Type 0
IsReady x = x.told ≡ None → Undialled x.known

-- so it is of the writer that a change leaves
abbrev Leaves : Change → Type 0
Leaves k = IsReady k.writer

-- all writers
abbrev pub AllReady : World → Type 0
AllReady w = (b : ℕ) → IsReady (w.writers b)

-- OWN STEPS

module _ (w : World) (b : ℕ) where
  did-leaves : (waits : Option Waiting) (a : Action) (x : WriterRecord) (bytes : List ℕ) → dials x.phase ≡ false → IfSome (did w b waits a x bytes) Leaves
  did-leaves waits action.Took x bytes e = λ t. never x e
  did-leaves waits (action.Send p) x bytes e = λ t. never x e
  did-leaves waits (action.Answered k said) x bytes e = λ t. never x e
  did-leaves waits action.Wait x bytes e = tt
  did-leaves waits (action.Ask c) x bytes e = tt
  did-leaves waits (action.Dial to r) x bytes e = tt
  did-leaves waits action.Memory x bytes e = tt

  step-leaves : (waits : Option Waiting) (s : Step) (bytes : List ℕ) → dials s.writer.phase ≡ false → IfSome (did_step w b waits s bytes) Leaves
  step-leaves waits s bytes e = did-leaves waits s.action s.writer bytes e

  -- a dial is no step by itself
  dial-leaves : (waits : Option Waiting) (x : WriterRecord) (s : Setup) (stamp : Stamp) (ns : List NodeId) (bytes : List ℕ) → IfSome (did_step w b waits (dial_step_as x s stamp ns) bytes) Leaves
  dial-leaves waits x s stamp [] bytes = tt
  dial-leaves waits x s stamp (n ∷ ns) bytes = tt

  phase-leaves : (waits : Option Waiting) (x : WriterRecord) (bytes : List ℕ) (p : Phase) → x.phase ≡ p → IfSome (did_step w b waits (step_in x p) bytes) Leaves
  phase-leaves waits x bytes (phase.Stamped s stamp) e = dial-leaves waits x s stamp x.members bytes
  phase-leaves waits x bytes phase.Closed e = step-leaves waits (step_in x phase.Closed) bytes (step-phase x phase.Closed (ap dials e))
  phase-leaves waits x bytes (phase.Wanted s) e = step-leaves waits (step_in x (phase.Wanted s)) bytes (step-phase x (phase.Wanted s) (ap dials e))
  phase-leaves waits x bytes (phase.Requested s stamp) e = step-leaves waits (step_in x (phase.Requested s stamp)) bytes (step-phase x (phase.Requested s stamp) (ap dials e))
  phase-leaves waits x bytes (phase.Accepted s stamp) e = step-leaves waits (step_in x (phase.Accepted s stamp)) bytes (step-phase x (phase.Accepted s stamp) (ap dials e))
  phase-leaves waits x bytes phase.Opened e = step-leaves waits (step_in x phase.Opened) bytes (step-phase x phase.Opened (ap dials e))
  phase-leaves waits x bytes (phase.Streaming sent) e = step-leaves waits (step_in x (phase.Streaming sent)) bytes (step-phase x (phase.Streaming sent) (ap dials e))
  phase-leaves waits x bytes phase.Closing e = step-leaves waits (step_in x phase.Closing) bytes (step-phase x phase.Closing (ap dials e))
  phase-leaves waits x bytes phase.Finished e = step-leaves waits (step_in x phase.Finished) bytes (step-phase x phase.Finished (ap dials e))
  phase-leaves waits x bytes phase.Completed e = step-leaves waits (step_in x phase.Completed) bytes (step-phase x phase.Completed (ap dials e))
  phase-leaves waits x bytes (phase.Failed f) e = step-leaves waits (step_in x (phase.Failed f)) bytes (step-phase x (phase.Failed f) (ap dials e))

  own-leaves : (waits : Option Waiting) (x : WriterRecord) (bytes : List ℕ) → IfSome (did_step w b waits (own_step x) bytes) Leaves
  unfolding own_step
  own-leaves waits x bytes = phase-leaves waits x bytes x.phase refl

  given-leaves : (x : WriterRecord) (c : Command) → IfSome (takes_given w b x c) Leaves
  given-leaves x c = when-each Leaves (is_empty (own_step (given x c)).writer.queue) _ (λ _. own-leaves x.waiting (given x c) (command_bytes x c))

  takes-leaves : (x : WriterRecord) (t : TakenCommand) → IfSome (takes_command w b x t) Leaves
  takes-leaves x t = when-each Leaves (is_formed t.command t.rule && not (is_empty (given x t.command).queue)) _ (λ _. given-leaves (ruled x t.command t.rule) t.command)

  -- WITH THE OFFICE'S ANSWER

  dialled-leaves : (x : WriterRecord) (to : NodeId) (r : Op) (answered : Bool) (s : Setup) (stamp : Stamp) (ns : List NodeId) → x.members ≡ to ∷ ns → x.phase ≡ phase.Stamped s stamp → Leaves (dialled_change w b x to r answered)
  dialled-leaves x to r true s stamp ns m e = λ t. never (dialled x true) (dialled-phase x true s stamp to ns m e)
  dialled-leaves x to r false s stamp ns m e = λ t. never (dialled x false) (dialled-phase x false s stamp to ns m e)

  dialling-leaves : (x : WriterRecord) (s : Setup) (stamp : Stamp) (ns : List NodeId) (answered : Bool) → x.members ≡ ns → x.phase ≡ phase.Stamped s stamp → Leaves (dialling w b x (dial_step_as x s stamp ns).action answered)
  dialling-leaves x s stamp [] answered m e = λ t d. m
  dialling-leaves x s stamp (n ∷ ns) answered m e = dialled-leaves x n (request_for x.block x.committed x.stream s stamp (length x.members) ns) (answered && w.running n.0) s stamp ns m e

  rest-leaves : (p : Phase) (x : WriterRecord) (answered : Bool) → x.phase ≡ p → IfSome (rest_in p w b x answered) Leaves
  rest-leaves (phase.Stamped s stamp) x answered e = dialling-leaves x s stamp x.members answered refl e
  rest-leaves phase.Opened x answered e = step-leaves x.waiting (open_step x) [] refl
  rest-leaves phase.Completed x answered e = step-leaves x.waiting (completed_step x) [] refl
  rest-leaves phase.Closed x answered e = λ t. never x (ap dials e)
  rest-leaves (phase.Wanted s) x answered e = λ t. never x (ap dials e)
  rest-leaves (phase.Requested s stamp) x answered e = λ t. never x (ap dials e)
  rest-leaves (phase.Accepted s stamp) x answered e = λ t. never x (ap dials e)
  rest-leaves (phase.Streaming n) x answered e = λ t. never x (ap dials e)
  rest-leaves phase.Closing x answered e = λ t. never x (ap dials e)
  rest-leaves phase.Finished x answered e = λ t. never x (ap dials e)
  rest-leaves (phase.Failed f) x answered e = λ t. never x (ap dials e)

  writer-step-leaves : (x : WriterRecord) (told : Option Told) (takes : Option TakenCommand) (answered : Bool) → IfSome (writer_step w b x told takes answered) Leaves
  writer-step-leaves x (Some t) None answered = rest-leaves (granted x t).phase (granted x t) answered refl
  writer-step-leaves x (Some t) (Some c) answered = tt
  writer-step-leaves x None None answered = own-leaves x.waiting x []
  writer-step-leaves x None (Some t) answered = takes-leaves x t

  -- WHAT A WRITER TAKES

  writer-up-leaves : (c : ℕ) (n : Next) → IsReady (w.writers b) → IfSome (writer_up w b c n) Leaves
  writer-up-leaves c n h = when-each Leaves (is_conn (w.writers b).conn c && is_none (w.writers b).told) _
      (λ e. λ t. hears-undialled (w.writers b).known n (h (none-told (w.writers b).told (and-right (is_conn (w.writers b).conn c) (is_none (w.writers b).told) e))))

module _ (w : World) (h : AllReady w) where
  -- THE OFFICE

  asks-leaves : (a : Action) (b : ℕ) → IfSome (writer_asks a w b) Leaves
  asks-leaves (action.Ask c) b = λ t. absurd (none-some (answer_to w.office c) (sym t))
  asks-leaves action.Wait b = tt
  asks-leaves action.Took b = tt
  asks-leaves (action.Dial to r) b = tt
  asks-leaves (action.Send p) b = tt
  asks-leaves (action.Answered k said) b = tt
  asks-leaves action.Memory b = tt

  commits-leaves : (s : OwnStep) (i : ℕ) (l : Leading) → IfSome (primary_commits s w i l) Leaves
  commits-leaves (own_step_of.Commits c) i l = h 0
  commits-leaves own_step_of.Waits i l = tt
  commits-leaves (own_step_of.Updates c) i l = tt
  commits-leaves (own_step_of.Ends r) i l = tt

  primary-leaves : (x : Primary) (i : ℕ) (b : BlockId) → IfSome (primary_asks x w i b) Leaves
  primary-leaves no_primary i b = h 0
  primary-leaves (leads l) i b = when-each Leaves (is_alive w l.at && is_none l.told) _ (λ _. commits-leaves (primary.own_step l.state).does i l)
  primary-leaves (was_told q t) i b = tt
  primary-leaves (has_led r) i b = tt

  office-leaves : (c : Caller) → IfSome (office_event w c) Leaves
  office-leaves (caller.Writer b) = when-each Leaves (is_none (w.writers b.0).told) _ (λ _. asks-leaves (writer.own_step (w.writers b.0).known).action b.0)
  office-leaves (caller.Primary i b) = primary-leaves (w.primaries i) i b

  -- OTHER CHANGES

  aside-leaves : (o : Option Change) → IfSome o (Aside w) → IfSome o Leaves
  aside-leaves None q = tt
  aside-leaves (Some k) q = subst IsReady (sym q.writer) (h k.writer_at)

  own-step-leaves : (s : events.OwnStep) → IfSome (own_change w s) Leaves
  own-step-leaves (own.Writer b takes answered) = writer-step-leaves w b.0 (w.writers b.0).known (w.writers b.0).told takes answered
  own-step-leaves (own.Reader i n r answered) = aside-leaves (own_reader w i n.0 r answered) (own-reader-aside w i n.0 r answered)
  own-step-leaves (own.Recover i n b members answers) = aside-leaves (own_recover w i n.0 b members answers) (own-recover-aside w i n.0 b members answers)
  own-step-leaves (own.Primary i) = aside-leaves (own_primary w i) (own-primary-aside w i)

  unless-leaves : (fails : Bool) (o : Option Change) → IfSome o Leaves → IfSome (unless_fails fails o) Leaves
  unless-leaves true o q = tt
  unless-leaves false o q = q

  upper-leaves : (u : Upper) (c : ℕ) (x : Next) (fails : Bool) → IfSome (upper_up u w c x fails) Leaves
  upper-leaves (by_writer b) c x fails = unless-leaves fails (writer_up w b c x) (writer-up-leaves w b c x (h b))
  upper-leaves (by_member d) c x fails = aside-leaves (mirror_up (w.lowers d) w d x fails) (mirror-up-aside (w.lowers d) w d x fails)
  upper-leaves (by_reader i) c x fails = unless-leaves fails (reader_up w i c x) (aside-leaves (reader_up w i c x) (reader-up-aside w i c x))
  upper-leaves (by_primary i place) c x fails = unless-leaves fails (primary_up w i place c x) (aside-leaves (primary_up w i place c x) (primary-up-aside w i place c x))

  -- WORLDS

  apply-ready : (k : Change) → Leaves k → AllReady (apply w k)
  unfolding apply
  apply-ready k n b = put-each (λ (j : ℕ) (x : Writing). IsReady x) w.writers k.writer_at k.writer n h b

  changed-ready : (o : Option Change) → IfSome o Leaves → IfSome (changed w o) AllReady
  changed-ready None n = tt
  changed-ready (Some k) n = apply-ready k n

-- DELIVERIES

down-taken-ready : (w : World) (c : ℕ) (x : Next) → AllReady w → AllReady (down_taken w c x)
unfolding down_taken
down-taken-ready w c x h b = h b

up-taken-ready : (w : World) (c : ℕ) (x : Next) → AllReady w → AllReady (up_taken w c x)
unfolding up_taken
up-taken-ready w c x h b = h b

down-as-ready : (w : World) (c : ℕ) (answered fails : Bool) (o : Option Next) → AllReady w → IfSome (down_as w c answered fails o) AllReady
down-as-ready w c answered fails None h = tt
down-as-ready w c answered fails (Some x) h =
    let v : World = down_taken w c x in
    let r : AllReady v = down-taken-ready w c x h in
    changed-ready v r (lower_down (w.lowers c) v c x answered fails) (aside-leaves v r (lower_down (w.lowers c) v c x answered fails) (lower-down-aside (w.lowers c) v c x answered fails))

down-ready : (w : World) (c : ℕ) (answered fails : Bool) → AllReady w → IfSome (down_event w c answered fails) AllReady
down-ready w c answered fails h = when-each AllReady (is_served w c) _ (λ _. down-as-ready w c answered fails (next_down w c) h)

acts-ready : (w : World) (c : ℕ) (fails : Bool) → AllReady w → IfSome (ready_event w c fails) AllReady
acts-ready w c fails h = when-each AllReady (is_served w c) _
    (λ _. changed-ready w h (lower_ready (w.lowers c) w c fails) (aside-leaves w h (lower_ready (w.lowers c) w c fails) (lower-ready-aside (w.lowers c) w c fails)))

up-as-ready : (w : World) (c : ℕ) (fails : Bool) (o : Option Next) → AllReady w → IfSome (up_as w c fails o) AllReady
up-as-ready w c fails None h = tt
up-as-ready w c fails (Some x) h =
    let v : World = up_taken w c x in
    let r : AllReady v = up-taken-ready w c x h in
    changed-ready v r (upper_up (w.dialled c).upper v c x fails) (upper-leaves v r (w.dialled c).upper c x fails)

up-ready : (w : World) (c : ℕ) (fails : Bool) → AllReady w → IfSome (up_event w c fails) AllReady
up-ready w c fails h = when-each AllReady (nat_lt c w.next_conn) _ (λ _. up-as-ready w c fails (next_up w c) h)

fault-ready : (w : World) (d : Delivery) → AllReady w → IfSome (fault_event w d) AllReady
fault-ready w (delivery.Down c) h = down-ready w c.0 false true h
fault-ready w (delivery.Ready c) h = acts-ready w c.0 true h
fault-ready w (delivery.Up c) h = up-ready w c.0 true h

-- ALL EVENTS

lost-ready : (w : World) (c : ℕ) (way : Direction) (more : ℕ) → AllReady w → AllReady (lost w c way more)
lost-ready w c direction.Down more h b = h b
lost-ready w c direction.Up more h b = h b

where-ready : (test : Bool) (v : World) → AllReady v → IfSome (where_so test v) AllReady
where-ready true v h = h
where-ready false v h = tt

outcome-ready : (w : World) (e : Event) → AllReady w → IfSome (outcome w e) AllReady
unfolding outcome restart
outcome-ready w (event.Own s) h = changed-ready w h (own_change w s) (own-step-leaves w h s)
outcome-ready w (event.Office c) h = changed-ready w h (office_event w c) (office-leaves w h c)
outcome-ready w (event.Down c answered) h = down-ready w c.0 answered false h
outcome-ready w (event.Ready c) h = acts-ready w c.0 false h
outcome-ready w (event.Up c) h = up-ready w c.0 false h
outcome-ready w (event.Lost c way more) h = where-ready (nat_lt c.0 w.next_conn) (lost w c.0 way more) (lost-ready w c.0 way more h)
outcome-ready w (event.Fault d) h = fault-ready w d h
outcome-ready w (event.Stop n) h = where-ready (w.running n.0) (stop w n.0) h
outcome-ready w (event.Restart n list) h = where-ready (nat_lt n.0 w.nodes && not (w.running n.0)) (restart w n.0 list) h

after-ready : (w : World) (e : Event) (o : Option World) → AllReady w → IfSome o AllReady → AllReady (after_event w e o)
after-ready w e None h n b = h b
after-ready w e (Some v) h n b = n b

happens-ready : (w : World) (e : Event) → AllReady w → AllReady (happens w e)
unfolding happens
happens-ready w e h = after-ready w e (outcome w e) h (outcome-ready w e h)

run-ready : (w : World) (list : List Event) → AllReady w → AllReady (run w list)
run-ready w [] h = h
run-ready w (e ∷ list) h = run-ready (happens w e) list (happens-ready w e h)

start-ready : (nodes : ℕ) → AllReady (start nodes)
unfolding start
start-ready nodes b = λ t d. refl

pub all-ready : (nodes : ℕ) (list : List Event) → AllReady (run (start nodes) list)
all-ready nodes list = run-ready (start nodes) list (start-ready nodes)

-- WHAT IS DONE NEXT

done-next : (a : Action) → is_action a ≡ true → is_plain a ≡ true → (is_deed a || is_question a) ≡ true
done-next action.Wait h p = absurd (false≢true h)
done-next action.Took h p = refl
done-next (action.Ask c) h p = refl
done-next (action.Dial to r) h p = absurd (false≢true p)
done-next (action.Send q) h p = refl
done-next (action.Answered n a) h p = refl
done-next action.Memory h p = absurd (false≢true p)

pub act-or-ask : ActOrAsk
act-or-ask nodes list b told has =
    let x : WriterRecord = ((run (start nodes) list).writers b.0).known in
    done-next (own_step x).action has (own-plain x (all-ready nodes list b.0 told))
