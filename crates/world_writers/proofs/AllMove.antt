-- Writers in the world make the moves of their core, after every list of events.
use Rattle.std.proofs.Common.{◌≡◌, ℕ, Bool, true, false, List, [], ◌∷◌, Option, Some, None, IfSome, refl, sym, subst, arith}
use Rattle.std.specs.Prelude.{◌&&◌, not, nat_lt, is_none}
use Rattle.hd_base.specs.declared.numbers.BlockId.{BlockId}
use Rattle.hd_base.specs.declared.numbers.NodeId.{NodeId}
use Rattle.hd_base.specs.SumRules.{default_rule}
use Rattle.op_headers.specs.declared.ops.Op.{Op}
use Rattle.recovery_core.specs.declared.primary.OwnStep.{OwnStep}
use Rattle.recovery_core.specs.declared.primary.OwnStep.TheVariants as lead
use Rattle.recovery_core.specs.Primaries as primary
use Rattle.writer_core.specs.declared.actions.Action.{Action}
use Rattle.writer_core.specs.declared.actions.Action.TheVariants as action
use Rattle.writer_core.specs.declared.actions.ClientAnswer.TheVariants as answer
use Rattle.writer_core.specs.declared.phases.Phase.{Phase}
use Rattle.writer_core.specs.declared.phases.Phase.TheVariants as phase
use Rattle.writer_core.specs.declared.phases.Waiting.{Waiting}
use Rattle.writer_core.specs.declared.records.WriterRecord.{WriterRecord}
use Rattle.writer_core.specs.Transitions.{given, own_step, step_in, dial_step, open_step, completed_step, granted}
use Rattle.writer_core.specs.Laws.{IsReached}
use Rattle.writer_core.proofs.ReachedLemmas.{answered_is_acked}
use Rattle.world.specs.declared.events.Caller.{Caller}
use Rattle.world.specs.declared.events.Caller.TheVariants as caller
use Rattle.world.specs.declared.events.Delivery.{Delivery}
use Rattle.world.specs.declared.events.Delivery.TheVariants as delivery
use Rattle.world.specs.declared.events.Direction.{Direction}
use Rattle.world.specs.declared.events.Direction.TheVariants as direction
use Rattle.world.specs.declared.events.Event.{Event}
use Rattle.world.specs.declared.events.Event.TheVariants as event
use Rattle.world.specs.declared.events.OwnStep as step
use Rattle.world.specs.declared.events.OwnStep.TheVariants as own
use Rattle.world.specs.declared.events.TakenCommand.{TakenCommand}
use Rattle.world.specs.Parts.{Upper, by_writer, by_member, by_reader, by_primary, Told, Writing, Leading, Primary, no_primary, was_told, leads, has_led}
use Rattle.world.specs.Worlds.{World, Change, apply, start}
use Rattle.world.specs.Connections.{Next, next_down, next_up, down_taken, up_taken, is_served, is_conn, is_alive}
use Rattle.world.specs.Nodes.{lower_down, lower_ready, mirror_up}
use Rattle.world.specs.Clients.{did, dialled_change, dialling, rest_in, is_empty, is_formed, ruled, command_bytes, takes_command, writer_step, own_writer, writer_up, own_reader, reader_up}
use Rattle.world.specs.Primaries.{writer_asks, primary_commits, primary_asks, office_event, own_recover, own_primary, primary_up}
use Rattle.world.specs.Restarts.{restart}
use Rattle.world.specs.Events.{changed, own_change, down_as, down_event, ready_event, unless_fails, upper_up, up_as, up_event, fault_event, lost, stop, where_so, outcome, after_event, happens, run}
use Rattle.world_laws.proofs.FactTables.{put-each, when-each, some-weaker, and-left, and-right}
use Rattle.world_laws.proofs.SessionAsides.{Aside, lower-down-aside, lower-ready-aside, mirror-up-aside, own-reader-aside, reader-up-aside, own-recover-aside, own-primary-aside, primary-up-aside}
use Rattle.world_laws.specs.Stamping.{known_heard, heard}
use Rattle.world_laws.proofs.AllRecorded.{Reached, reached-next}
use Rattle.world_laws.proofs.StampWalking.{none-is}
use Rattle.world_laws.proofs.AllCarried.{at-start, all-carried}
use Rattle.world_writers.specs.Moving.{Makes, AllMove, Reaches, AllReached}
use Rattle.world_writers.proofs.Moving.{makes-steps, makes-granted, makes-dialled, makes-hears, taken-makes}

-- WRITERS

pub record Making (w : World) : Type 0 where
  pub each : (b : ℕ) → Makes b (heard (w.writers b))

-- the writer of a change
record Made (k : Change) : Type 0 where
  pub is : Makes k.writer_at (heard k.writer)

did-made : (w : World) (b : ℕ) (waits : Option Waiting) (a : Action) (y : WriterRecord) (bytes : List ℕ) → Makes b y → IfSome (did w b waits a y bytes) Made
did-made w b waits action.Wait y bytes h = tt
did-made w b waits action.Took y bytes h = record { is = h }
did-made w b waits (action.Ask c) y bytes h = tt
did-made w b waits (action.Dial to r) y bytes h = tt
did-made w b waits (action.Send p) y bytes h = record { is = h }
did-made w b waits (action.Answered n a) y bytes h = record { is = h }
did-made w b waits action.Memory y bytes h = tt

dialled-made : (w : World) (b : ℕ) (x : WriterRecord) (to : NodeId) (r : Op) (answered : Bool) → Makes b x → Made (dialled_change w b x to r answered)
dialled-made w b x to r true h = record { is = makes-dialled b x true h }
dialled-made w b x to r false h = record { is = makes-dialled b x false h }

dialling-made : (w : World) (b : ℕ) (x : WriterRecord) (a : Action) (answered : Bool) → Makes b x → Made (dialling w b x a answered)
dialling-made w b x action.Wait answered h = record { is = h }
dialling-made w b x action.Took answered h = record { is = h }
dialling-made w b x (action.Ask c) answered h = record { is = h }
dialling-made w b x (action.Dial to r) answered h = dialled-made w b x to r (answered && w.running to.0) h
dialling-made w b x (action.Send p) answered h = record { is = h }
dialling-made w b x (action.Answered n a) answered h = record { is = h }
dialling-made w b x action.Memory answered h = record { is = h }

-- the step in a phase is the own step
makes-in : (b : ℕ) (x : WriterRecord) (p : Phase) → x.phase ≡ p → Makes b x → Makes b (step_in x p).writer
unfolding own_step
makes-in b x p e h = subst (λ (q : Phase). Makes b (step_in x q).writer) e (makes-steps b x h)

rest-made : (p : Phase) (w : World) (b : ℕ) (x : WriterRecord) (answered : Bool) → x.phase ≡ p → Makes b x → IfSome (rest_in p w b x answered) Made
rest-made phase.Closed w b x answered e h = record { is = h }
rest-made (phase.Wanted s) w b x answered e h = record { is = h }
rest-made (phase.Stamped s stamp) w b x answered e h = dialling-made w b x (dial_step x s stamp).action answered h
rest-made (phase.Requested s stamp) w b x answered e h = record { is = h }
rest-made (phase.Accepted s stamp) w b x answered e h = record { is = h }
rest-made phase.Opened w b x answered e h = did-made w b x.waiting (open_step x).action (open_step x).writer [] (makes-in b x phase.Opened e h)
rest-made (phase.Streaming sent) w b x answered e h = record { is = h }
rest-made phase.Closing w b x answered e h = record { is = h }
rest-made phase.Finished w b x answered e h = record { is = h }
rest-made phase.Completed w b x answered e h = did-made w b x.waiting (completed_step x).action (completed_step x).writer [] (makes-in b x phase.Completed e h)
rest-made (phase.Failed f) w b x answered e h = record { is = h }

command-made : (w : World) (b : ℕ) (x : WriterRecord) (k : TakenCommand) → x.queue ≡ [] → Makes b x → IfSome (takes_command w b x k) Made
command-made w b x k q h =
    let formed = is_formed k.command k.rule in
    let there = not (is_empty (given x k.command).queue) in
    let y = ruled x k.command k.rule in
    let s = own_step (given y k.command) in
    when-each Made (formed && there) _ (λ t. when-each Made (is_empty s.writer.queue) _
    (λ _. did-made w b y.waiting s.action s.writer (command_bytes y k.command) (taken-makes b x k.command k.rule q (and-left formed there t) (and-right formed there t) h)))

-- the writer that has heard this
makes-told : (w : World) (b : ℕ) (o : Option Told) → Making w → (w.writers b).told ≡ o → Makes b (known_heard (w.writers b).known o)
makes-told w b o h e = subst (λ (z : Option Told). Makes b (known_heard (w.writers b).known z)) e (h.each b)

-- no command is left in its queue
queue-of : (w : World) (b : ℕ) → Reached w → (w.writers b).told ≡ None → (w.writers b).known.queue ≡ []
queue-of w b r e =
    subst (λ (z : Option Told). (known_heard (w.writers b).known z).queue ≡ []) e
    (subst (λ (v : World). (heard (v.writers b)).queue ≡ []) r.is ((all-carried r.nodes r.events).writers b).queue)

step-made : (w : World) (b : ℕ) (o : Option Told) (takes : Option TakenCommand) (answered : Bool) → Reached w → Making w → (w.writers b).told ≡ o → IfSome (writer_step w b (w.writers b).known o takes answered) Made
step-made w b (Some told) None answered r h e = let x = granted (w.writers b).known told in rest-made x.phase w b x answered refl (makes-told w b (Some told) h e)
step-made w b (Some told) (Some k) answered r h e = tt
step-made w b None None answered r h e =
    let x = (w.writers b).known in did-made w b x.waiting (own_step x).action (own_step x).writer [] (makes-steps b x (makes-told w b None h e))
step-made w b None (Some k) answered r h e = command-made w b (w.writers b).known k (queue-of w b r e) (makes-told w b None h e)

writer-up-made : (w : World) (b c : ℕ) (x : Next) → Making w → IfSome (writer_up w b c x) Made
writer-up-made w b c x h =
    let y = (w.writers b).known in
    when-each Made (is_conn (w.writers b).conn c && is_none (w.writers b).told) _
    (λ e. record { is = makes-hears b y x (makes-told w b None h (none-is (w.writers b).told (and-right (is_conn (w.writers b).conn c) (is_none (w.writers b).told) e))) })

aside-made : (w : World) (k : Change) → Making w → Aside w k → Made k
aside-made w k h a = record { is = subst (λ (z : Writing). Makes k.writer_at (heard z)) (sym a.writer) (h.each k.writer_at) }

asides-made : (w : World) (o : Option Change) → Making w → IfSome o (Aside w) → IfSome o Made
asides-made w o h a = some-weaker (Aside w) Made o (λ k z. aside-made w k h z) a

-- THE OFFICE

asks-made : (a : Action) (w : World) (b : ℕ) → Making w → (w.writers b).told ≡ None → IfSome (writer_asks a w b) Made
asks-made action.Wait w b h e = tt
asks-made action.Took w b h e = tt
asks-made (action.Ask c) w b h e = record { is = makes-granted b (w.writers b).known _ (makes-told w b None h e) }
asks-made (action.Dial to r) w b h e = tt
asks-made (action.Send p) w b h e = tt
asks-made (action.Answered n a) w b h e = tt
asks-made action.Memory w b h e = tt

commits-made : (s : OwnStep) (w : World) (i : ℕ) (l : Leading) → Making w → IfSome (primary_commits s w i l) Made
commits-made lead.Waits w i l h = tt
commits-made (lead.Updates c) w i l h = tt
commits-made (lead.Commits c) w i l h = record { is = h.each 0 }
commits-made (lead.Ends r) w i l h = tt

primary-made : (p : Primary) (w : World) (i : ℕ) (b : BlockId) → Making w → IfSome (primary_asks p w i b) Made
primary-made no_primary w i b h = record { is = h.each 0 }
primary-made (was_told c told) w i b h = tt
primary-made (leads l) w i b h = when-each Made (is_alive w l.at && is_none l.told) _ (λ _. commits-made (primary.own_step l.state).does w i l h)
primary-made (has_led r) w i b h = tt

office-made : (w : World) (c : Caller) → Making w → IfSome (office_event w c) Made
office-made w (caller.Writer b) h = when-each Made (is_none (w.writers b.0).told) _ (λ e. asks-made (own_step (w.writers b.0).known).action w b.0 h (none-is (w.writers b.0).told e))
office-made w (caller.Primary i b) h = primary-made (w.primaries i) w i b h

-- EVENTS

changed-making : (w : World) (o : Option Change) → Making w → IfSome o Made → IfSome (changed w o) Making
unfolding apply
changed-making w None h m = tt
changed-making w (Some k) h m = record { each = put-each (λ (b : ℕ) (z : Writing). Makes b (heard z)) w.writers k.writer_at k.writer m.is h.each }

unless-made : (fails : Bool) (o : Option Change) → IfSome o Made → IfSome (unless_fails fails o) Made
unless-made true o h = tt
unless-made false o h = h

upper-made : (u : Upper) (w : World) (c : ℕ) (x : Next) (fails : Bool) → Making w → IfSome (upper_up u w c x fails) Made
upper-made (by_writer b) w c x fails h = unless-made fails (writer_up w b c x) (writer-up-made w b c x h)
upper-made (by_member d) w c x fails h = asides-made w (mirror_up (w.lowers d) w d x fails) h (mirror-up-aside (w.lowers d) w d x fails)
upper-made (by_reader i) w c x fails h = unless-made fails (reader_up w i c x) (asides-made w (reader_up w i c x) h (reader-up-aside w i c x))
upper-made (by_primary i p) w c x fails h = unless-made fails (primary_up w i p c x) (asides-made w (primary_up w i p c x) h (primary-up-aside w i p c x))

down-taken-making : (w : World) (c : ℕ) (x : Next) → Making w → Making (down_taken w c x)
unfolding down_taken
down-taken-making w c x h = record { each = h.each }

up-taken-making : (w : World) (c : ℕ) (x : Next) → Making w → Making (up_taken w c x)
unfolding up_taken
up-taken-making w c x h = record { each = h.each }

down-as-making : (w : World) (c : ℕ) (answered fails : Bool) (o : Option Next) → Making w → IfSome (down_as w c answered fails o) Making
down-as-making w c answered fails None h = tt
down-as-making w c answered fails (Some x) h =
    let v = down_taken w c x in
    let k = lower_down (w.lowers c) v c x answered fails in
    changed-making v k (down-taken-making w c x h) (asides-made v k (down-taken-making w c x h) (lower-down-aside (w.lowers c) v c x answered fails))

down-making : (w : World) (c : ℕ) (answered fails : Bool) → Making w → IfSome (down_event w c answered fails) Making
down-making w c answered fails h = when-each Making (is_served w c) _ (λ _. down-as-making w c answered fails (next_down w c) h)

ready-making : (w : World) (c : ℕ) (fails : Bool) → Making w → IfSome (ready_event w c fails) Making
ready-making w c fails h =
    let k = lower_ready (w.lowers c) w c fails in
    when-each Making (is_served w c) _ (λ _. changed-making w k h (asides-made w k h (lower-ready-aside (w.lowers c) w c fails)))

up-as-making : (w : World) (c : ℕ) (fails : Bool) (o : Option Next) → Making w → IfSome (up_as w c fails o) Making
up-as-making w c fails None h = tt
up-as-making w c fails (Some x) h =
    let v = up_taken w c x in
    changed-making v (upper_up (w.dialled c).upper v c x fails) (up-taken-making w c x h) (upper-made (w.dialled c).upper v c x fails (up-taken-making w c x h))

up-making : (w : World) (c : ℕ) (fails : Bool) → Making w → IfSome (up_event w c fails) Making
up-making w c fails h = when-each Making (nat_lt c w.next_conn) _ (λ _. up-as-making w c fails (next_up w c) h)

fault-making : (w : World) (d : Delivery) → Making w → IfSome (fault_event w d) Making
fault-making w (delivery.Down c) h = down-making w c.0 false true h
fault-making w (delivery.Ready c) h = ready-making w c.0 true h
fault-making w (delivery.Up c) h = up-making w c.0 true h

own-making : (w : World) (s : step.OwnStep) → Reached w → Making w → IfSome (changed w (own_change w s)) Making
own-making w (own.Writer b takes answered) r h = changed-making w (own_writer w b.0 takes answered) h (step-made w b.0 (w.writers b.0).told takes answered r h refl)
own-making w (own.Reader i n x answered) r h = changed-making w (own_reader w i n.0 x answered) h (asides-made w (own_reader w i n.0 x answered) h (own-reader-aside w i n.0 x answered))
own-making w (own.Recover i n b members answers) r h = changed-making w (own_recover w i n.0 b members answers) h (asides-made w (own_recover w i n.0 b members answers) h (own-recover-aside w i n.0 b members answers))
own-making w (own.Primary i) r h = changed-making w (own_primary w i) h (asides-made w (own_primary w i) h (own-primary-aside w i))

where-making : (test : Bool) (v : World) → Making v → IfSome (where_so test v) Making
where-making true v h = h
where-making false v h = tt

lost-making : (w : World) (c : ℕ) (way : Direction) (more : ℕ) → Making w → Making (lost w c way more)
lost-making w c direction.Down more h = record { each = h.each }
lost-making w c direction.Up more h = record { each = h.each }

outcome-making : (w : World) (e : Event) → Reached w → Making w → IfSome (outcome w e) Making
unfolding outcome restart
outcome-making w (event.Own s) r h = own-making w s r h
outcome-making w (event.Office c) r h = changed-making w (office_event w c) h (office-made w c h)
outcome-making w (event.Down c answered) r h = down-making w c.0 answered false h
outcome-making w (event.Ready c) r h = ready-making w c.0 false h
outcome-making w (event.Up c) r h = up-making w c.0 false h
outcome-making w (event.Lost c way more) r h = where-making (nat_lt c.0 w.next_conn) (lost w c.0 way more) (lost-making w c.0 way more h)
outcome-making w (event.Fault d) r h = fault-making w d h
outcome-making w (event.Stop n) r h = where-making (w.running n.0) (stop w n.0) (record { each = h.each })
outcome-making w (event.Restart n list) r h = where-making (nat_lt n.0 w.nodes && not (w.running n.0)) (restart w n.0 list) (record { each = h.each })

after-making : (w : World) (e : Event) (o : Option World) → Making w → IfSome o Making → Making (after_event w e o)
after-making w e None h k = h
after-making w e (Some v) h k = record { each = k.each }

happens-making : (w : World) (e : Event) → Reached w → Making w → Making (happens w e)
unfolding happens
happens-making w e r h = after-making w e (outcome w e) h (outcome-making w e r h)

run-making : (w : World) (events : List Event) → Reached w → Making w → Making (run w events)
run-making w [] r h = h
run-making w (e ∷ events) r h = run-making (happens w e) events (reached-next w e r) (happens-making w e r h)

start-making : (nodes : ℕ) → Making (start nodes)
unfolding start
start-making nodes = record {
  each = λ b. record {
    moved = record { rule = default_rule; chunk = record { least = omega arith; greatest = omega arith }; moves = []; is = refl };
    unmade = λ u. record { rule = default_rule; is = refl };
  };
}

pub all-move : AllMove
all-move nodes events b = (run-making (start nodes) events (at-start nodes) (start-making nodes)).each b

-- WHAT IS ANSWERED

moved-reaches : (b : ℕ) (x : WriterRecord) → Makes b x → Reaches x
moved-reaches b x h n bytes stamp members e =
    let m = h.moved in
    subst (λ (z : WriterRecord). IsReached z bytes stamp members) (sym m.is)
    (answered_is_acked (record { 0 = b }) m.rule m.moves n bytes stamp members m.chunk (subst (λ (z : WriterRecord). (own_step z).action ≡ action.Answered n (answer.Reached bytes stamp members)) m.is e))

pub all-reached : AllReached
all-reached nodes events b = moved-reaches b (heard ((run (start nodes) events).writers b)) (all-move nodes events b)
