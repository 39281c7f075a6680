-- What all writers are between their steps, after every list of events.
use Rattle.std.proofs.Common.{◌≡◌, ℕ, Bool, true, false, List, [], ◌∷◌, length, Option, Some, None, IfSome, refl, sym, ◌∙◌, ap, subst}
use Rattle.std.specs.Prelude.{◌&&◌, not, nat_lt, is_none, is_some, if◌then◌else◌}
use Rattle.std.proofs.lemmas.Bool.{false≢true}
use Rattle.hd_base.specs.declared.numbers.BlockId.{BlockId}
use Rattle.hd_base.specs.declared.numbers.NodeId.{NodeId}
use Rattle.hd_base.specs.declared.numbers.Stamp.{Stamp}
use Rattle.op_headers.specs.declared.ops.Op.{Op}
use Rattle.writer_core.specs.declared.actions.Action.{Action}
use Rattle.writer_core.specs.declared.actions.Action.TheVariants as action
use Rattle.writer_core.specs.declared.commands.Command.{Command}
use Rattle.writer_core.specs.declared.commands.Command.TheVariants as command
use Rattle.writer_core.specs.declared.phases.Phase.{Phase}
use Rattle.writer_core.specs.declared.phases.Phase.TheVariants as phase
use Rattle.writer_core.specs.declared.phases.Setup.{Setup}
use Rattle.writer_core.specs.declared.phases.Waiting.{Waiting}
use Rattle.writer_core.specs.declared.records.WriterRecord.{WriterRecord}
use Rattle.writer_core.specs.Requests.{request_for}
use Rattle.writer_core.specs.Transitions.{Step, given, own_step, dial_step_as, open_step, completed_step, granted, dialled, dialled_in, is_connected}
use Rattle.writer_core.specs.Transitions as writer
use Rattle.recovery_core.specs.declared.primary.OwnStep.{OwnStep}
use Rattle.recovery_core.specs.declared.primary.OwnStep.TheVariants as own_step_of
use Rattle.recovery_core.specs.Primaries as primary
use Rattle.world.specs.declared.events.Caller.{Caller}
use Rattle.world.specs.declared.events.Caller.TheVariants as caller
use Rattle.world.specs.declared.events.Delivery.{Delivery}
use Rattle.world.specs.declared.events.Delivery.TheVariants as delivery
use Rattle.world.specs.declared.events.Direction.{Direction}
use Rattle.world.specs.declared.events.Direction.TheVariants as direction
use Rattle.world.specs.declared.events.Event.{Event}
use Rattle.world.specs.declared.events.Event.TheVariants as event
use Rattle.world.specs.declared.events.OwnStep.TheVariants as own
use Rattle.world.specs.declared.events.OwnStep as events
use Rattle.world.specs.declared.events.TakenCommand.{TakenCommand}
use Rattle.world.specs.Parts.{Upper, by_writer, by_member, by_reader, by_primary, Told, Writing, Leading, Primary, no_primary, was_told, leads, has_led}
use Rattle.world.specs.Worlds.{World, Change, apply, start}
use Rattle.world.specs.Connections.{Next, next_down, next_up, down_taken, up_taken, is_served, is_conn, is_alive}
use Rattle.world.specs.Nodes.{lower_down, lower_ready, mirror_up}
use Rattle.world.specs.Clients.{writing_as, writer_change, did, did_step, dialled_change, dialling, rest_in, is_formed, ruled, command_bytes, is_empty, takes_command, writer_step, writer_hears, writer_up, own_reader, reader_up}
use Rattle.world.specs.Primaries.{own_recover, own_primary, primary_up, writer_asks, primary_commits, primary_asks, office_event}
use Rattle.world.specs.Restarts.{restart}
use Rattle.world.specs.Events.{changed, own_change, down_as, down_event, ready_event, unless_fails, upper_up, up_as, up_event, fault_event, lost, stop, where_so, outcome, after_event, happens, run}
use Rattle.play_model.proofs.WorldLaws.ByteFrame.{each-nil}
use Rattle.play_model.proofs.WorldLaws.FactTables.{put-each, when-each, and-right}
use Rattle.play_model.proofs.WorldLaws.SessionAsides.{Aside, lower-down-aside, lower-ready-aside, mirror-up-aside, own-reader-aside, reader-up-aside, own-recover-aside, own-primary-aside, primary-up-aside}
use Rattle.play_laws.specs.Writers.{Rests, AllRest, is_settled, needs_members}
use Rattle.play_laws.specs.Members.{Names, EventNames, AllName, IsNode, MembersAre}
use Rattle.play_laws.proofs.Queues.{own-bare, hears-bare, dialled-bare, granted-bare}
use Rattle.play_laws.proofs.Taking.{Kept, hears-kept, granted-kept, dialled-kept, own-kept, opened-kept, completed-kept, given-kept, fresh-kept}
use Rattle.play_laws.proofs.Steps.{is_early, Fits, Sits, Allows, Gets, some-member, empty-queue, hears-fits, undialled-fits, opened-fits, completed-fits, own-fits, granted-fits, ruled-gets, none-opens}

module _ (Of : NodeId → Type 0) where
  -- A writer between its steps.
  pub record Stands (x : Writing) : Type 0 where
    pub fits : Fits Of (is_some x.conn) (is_early x.known.phase) true x.known.members x.known.phase
    pub queue : x.known.queue ≡ []
    pub alone : is_connected x.known.phase ≡ false → x.conn ≡ None
    pub kept : Kept x.known

  -- so is the writer that a change leaves
  abbrev Leaves : Change → Type 0
  Leaves k = Stands k.writer

  -- all writers
  abbrev pub AllStand : World → Type 0
  AllStand w = (b : ℕ) → Stands (w.writers b)

  -- the writer keeps its connection where its phase has one
  as-stands : (x : WriterRecord) (conn : Option ℕ) (soon : Bool) → Sits Of (is_some conn) soon true x → x.queue ≡ [] → Kept x → Stands (writing_as x conn)
  as-stands x conn soon h q kept = go (is_connected x.phase) refl
    where
      go : (b : Bool) → is_connected x.phase ≡ b → Stands (record { known = x; conn = if b then conn else None; told = None })
      go true e = record { fits = record { settled = h.settled; some = h.some; each = h.each; conn = h.conn; early = λ a. a }; queue = q; alone = λ a. absurd (false≢true (sym a ∙ e)); kept = kept }
      go false e = record {
        fits = record { settled = h.settled; some = h.some; each = h.each; conn = λ a. absurd (false≢true (sym e ∙ a)); early = λ a. a };
        queue = q;
        alone = λ a. refl;
        kept = kept;
      }

  -- OWN STEPS

  module _ (w : World) (b : ℕ) where
    -- of a writer that may be connected
    abbrev Goes : WriterRecord → Type 0
    Goes x = Sits Of (is_some (w.writers b).conn) (is_early (w.writers b).known.phase) true x

    did-leaves : (waits : Option Waiting) (a : Action) (x : WriterRecord) (bytes : List ℕ) → Goes x → x.queue ≡ [] → Kept x → IfSome (did w b waits a x bytes) Leaves
    did-leaves waits action.Took x bytes h q kept = as-stands x (w.writers b).conn (is_early (w.writers b).known.phase) h q kept
    did-leaves waits (action.Send p) x bytes h q kept = as-stands x (w.writers b).conn (is_early (w.writers b).known.phase) h q kept
    did-leaves waits (action.Answered k said) x bytes h q kept = as-stands x (w.writers b).conn (is_early (w.writers b).known.phase) h q kept
    did-leaves waits action.Wait x bytes h q kept = tt
    did-leaves waits (action.Ask c) x bytes h q kept = tt
    did-leaves waits (action.Dial to r) x bytes h q kept = tt
    did-leaves waits action.Memory x bytes h q kept = tt

    given-leaves : (waits : Option Waiting) (x : WriterRecord) (bytes : List ℕ) → Gets Of (is_some (w.writers b).conn) (is_early (w.writers b).known.phase) x → (is_empty (own_step x).writer.queue ≡ true → Kept (own_step x).writer) → IfSome (if is_empty (own_step x).writer.queue then did_step w b waits (own_step x) bytes else None) Leaves
    given-leaves waits x bytes g kept = when-each Leaves (is_empty (own_step x).writer.queue) _
        (λ e. did-leaves waits (own_step x).action (own_step x).writer bytes (own-fits Of (is_some (w.writers b).conn) (is_early (w.writers b).known.phase) x g.first g.sits) (empty-queue (own_step x).writer.queue e) (kept e))

    -- what commands name may be members
    pub allowed : (c : Command) → Names Of c → Allows Of (is_some (w.writers b).conn) (is_early (w.writers b).known.phase) c
    allowed (command.Create ms) n = record { at = n }
    allowed (command.Append ms) n = record { at = n }
    allowed (command.Write bytes) n = tt
    allowed (command.Fill count) n = tt
    allowed command.Hflush n = tt
    allowed command.Hsync n = tt
    allowed command.Close n = tt

    takes-leaves : (x : WriterRecord) (t : TakenCommand) → Names Of t.command → Goes x → x.queue ≡ [] → Kept x → IfSome (takes_command w b x t) Leaves
    takes-leaves x t n h q kept = when-each Leaves (is_formed t.command t.rule && not (is_empty (given x t.command).queue)) _
        (λ e. given-leaves (ruled x t.command t.rule).waiting (given (ruled x t.command t.rule) t.command) (command_bytes (ruled x t.command t.rule) t.command)
        (ruled-gets Of (is_some (w.writers b).conn) (is_early (w.writers b).known.phase) x t.command t.rule (and-right (is_formed t.command t.rule) (not (is_empty (given x t.command).queue)) e) q (allowed t.command n) h)
        (given-kept x t.command t.rule (and-right (is_formed t.command t.rule) (not (is_empty (given x t.command).queue)) e) q kept))

    -- WITH THE OFFICE'S ANSWER

    -- of a writer that goes on at once
    abbrev GoesOn : WriterRecord → Type 0
    GoesOn x = Sits Of (is_some (w.writers b).conn) (is_early (w.writers b).known.phase) false x

    requested : (x : WriterRecord) (n : NodeId) (ns : List NodeId) (s : Setup) (stamp : Stamp) (d : ℕ) → x.members ≡ n ∷ ns → x.phase ≡ phase.Stamped s stamp → GoesOn x → x.queue ≡ [] → Kept (dialled x true) → Stands (record { known = dialled x true; conn = Some d; told = None })
    unfolding dialled
    requested x n ns s stamp d m e h q kept =
        subst (λ (p : Phase). Stands (record { known = dialled_in x p true; conn = Some d; told = None })) (sym e)
        (record {
          fits = record { settled = λ a. refl; some = λ a. subst (λ (ms : List NodeId). ms ≡ [] → ⊥) (sym m) (some-member n ns); each = h.each; conn = λ a. refl; early = λ a. refl };
          queue = q;
          alone = λ a. absurd (false≢true (sym a));
          kept = subst (λ (p : Phase). Kept (dialled_in x p true)) e kept;
        })

    dialled-leaves : (x : WriterRecord) (to : NodeId) (r : Op) (answered : Bool) (s : Setup) (stamp : Stamp) (ns : List NodeId) → x.members ≡ to ∷ ns → x.phase ≡ phase.Stamped s stamp → GoesOn x → x.queue ≡ [] → Kept x → Leaves (dialled_change w b x to r answered)
    dialled-leaves x to r true s stamp ns m e h q kept = requested x to ns s stamp w.next_conn m e h q (dialled-kept x true kept)
    dialled-leaves x to r false s stamp ns m e h q kept = as-stands (dialled x false) (w.writers b).conn (is_early (w.writers b).known.phase) (undialled-fits Of (is_some (w.writers b).conn) (is_early (w.writers b).known.phase) x s stamp to ns m e h.each) (dialled-bare x false q) (dialled-kept x false kept)

    dialling-leaves : (x : WriterRecord) (s : Setup) (stamp : Stamp) (ns : List NodeId) (answered : Bool) → x.members ≡ ns → x.phase ≡ phase.Stamped s stamp → GoesOn x → x.queue ≡ [] → Kept x → Leaves (dialling w b x (dial_step_as x s stamp ns).action answered)
    dialling-leaves x s stamp [] answered m e h q kept = absurd (h.some (ap needs_members e) m)
    dialling-leaves x s stamp (n ∷ ns) answered m e h q kept = dialled-leaves x n (request_for x.block x.committed x.stream s stamp (length x.members) ns) (answered && w.running n.0) s stamp ns m e h q kept

    settled : (x : WriterRecord) (p : Phase) → x.phase ≡ p → is_settled p ≡ true → GoesOn x → x.queue ≡ [] → Kept x → Leaves (writer_change w b x)
    settled x p e s h q kept = as-stands x (w.writers b).conn (is_early (w.writers b).known.phase) (record { settled = λ a. ap is_settled e ∙ s; some = h.some; each = h.each; conn = h.conn; early = h.early }) q kept

    rest-leaves : (p : Phase) (x : WriterRecord) (answered : Bool) → x.phase ≡ p → GoesOn x → x.queue ≡ [] → Kept x → IfSome (rest_in p w b x answered) Leaves
    rest-leaves (phase.Stamped s stamp) x answered e h q kept = dialling-leaves x s stamp x.members answered refl e h q kept
    rest-leaves phase.Opened x answered e h q kept = did-leaves x.waiting (open_step x).action (open_step x).writer []
        (opened-fits Of (is_some (w.writers b).conn) (is_early (w.writers b).known.phase) x (subst (λ (p : Phase). Fits Of (is_some (w.writers b).conn) (is_early (w.writers b).known.phase) false x.members p) e h)) q (opened-kept x e kept)
    rest-leaves phase.Completed x answered e h q kept = did-leaves x.waiting (completed_step x).action (completed_step x).writer [] (completed-fits Of (is_some (w.writers b).conn) (is_early (w.writers b).known.phase) x h.each) q (completed-kept x e kept)
    rest-leaves phase.Closed x answered e h q kept = settled x phase.Closed e refl h q kept
    rest-leaves (phase.Wanted s) x answered e h q kept = settled x (phase.Wanted s) e refl h q kept
    rest-leaves (phase.Requested s stamp) x answered e h q kept = settled x (phase.Requested s stamp) e refl h q kept
    rest-leaves (phase.Accepted s stamp) x answered e h q kept = settled x (phase.Accepted s stamp) e refl h q kept
    rest-leaves (phase.Streaming n) x answered e h q kept = settled x (phase.Streaming n) e refl h q kept
    rest-leaves phase.Closing x answered e h q kept = settled x phase.Closing e refl h q kept
    rest-leaves phase.Finished x answered e h q kept = settled x phase.Finished e refl h q kept
    rest-leaves (phase.Failed f) x answered e h q kept = settled x (phase.Failed f) e refl h q kept

    writer-step-leaves : (x : WriterRecord) (told : Option Told) (takes : Option TakenCommand) (answered : Bool) → IfSome takes (λ t. Names Of t.command) → Goes x → x.queue ≡ [] → Kept x → IfSome (writer_step w b x told takes answered) Leaves
    writer-step-leaves x (Some t) None answered n h q kept = rest-leaves (granted x t).phase (granted x t) answered refl (granted-fits Of (is_some (w.writers b).conn) (is_early (w.writers b).known.phase) x t h) (granted-bare x t q) (granted-kept x t kept)
    writer-step-leaves x (Some t) (Some c) answered n h q kept = tt
    writer-step-leaves x None None answered n h q kept = did-leaves x.waiting (own_step x).action (own_step x).writer [] (own-fits Of (is_some (w.writers b).conn) (is_early (w.writers b).known.phase) x (none-opens Of (is_some (w.writers b).conn) (is_early (w.writers b).known.phase) x.queue q) h) (own-bare x q) (own-kept x q kept)
    writer-step-leaves x None (Some t) answered n h q kept = takes-leaves x t n h q kept

    -- WHAT A WRITER TAKES

    writer-up-leaves : (c : ℕ) (n : Next) → Stands (w.writers b) → IfSome (writer_up w b c n) Leaves
    writer-up-leaves c n h = when-each Leaves (is_conn (w.writers b).conn c && is_none (w.writers b).told) _
        (λ e. as-stands (writer_hears (w.writers b).known n) (w.writers b).conn (is_early (w.writers b).known.phase) (hears-fits Of (is_some (w.writers b).conn) (is_early (w.writers b).known.phase) true (w.writers b).known n h.fits) (hears-bare (w.writers b).known n h.queue) (hears-kept (w.writers b).known n h.kept))

  module _ (w : World) (h : AllStand w) where
    -- THE OFFICE

    asks-leaves : (a : Action) (b : ℕ) → IfSome (writer_asks a w b) Leaves
    asks-leaves (action.Ask c) b = record { fits = (h b).fits; queue = (h b).queue; alone = (h b).alone; kept = (h b).kept }
    asks-leaves action.Wait b = tt
    asks-leaves action.Took b = tt
    asks-leaves (action.Dial to r) b = tt
    asks-leaves (action.Send p) b = tt
    asks-leaves (action.Answered k said) b = tt
    asks-leaves action.Memory b = tt

    commits-leaves : (s : OwnStep) (i : ℕ) (l : Leading) → IfSome (primary_commits s w i l) Leaves
    commits-leaves (own_step_of.Commits c) i l = h 0
    commits-leaves own_step_of.Waits i l = tt
    commits-leaves (own_step_of.Updates c) i l = tt
    commits-leaves (own_step_of.Ends r) i l = tt

    primary-leaves : (x : Primary) (i : ℕ) (b : BlockId) → IfSome (primary_asks x w i b) Leaves
    primary-leaves no_primary i b = h 0
    primary-leaves (leads l) i b = when-each Leaves (is_alive w l.at && is_none l.told) _ (λ _. commits-leaves (primary.own_step l.state).does i l)
    primary-leaves (was_told q t) i b = tt
    primary-leaves (has_led r) i b = tt

    office-leaves : (c : Caller) → IfSome (office_event w c) Leaves
    office-leaves (caller.Writer b) = when-each Leaves (is_none (w.writers b.0).told) _ (λ _. asks-leaves (writer.own_step (w.writers b.0).known).action b.0)
    office-leaves (caller.Primary i b) = primary-leaves (w.primaries i) i b

    -- OTHER CHANGES

    aside-leaves : (o : Option Change) → IfSome o (Aside w) → IfSome o Leaves
    aside-leaves None q = tt
    aside-leaves (Some k) q = subst Stands (sym q.writer) (h k.writer_at)

    own-step-leaves : (s : events.OwnStep) → EventNames Of (event.Own s) → IfSome (own_change w s) Leaves
    own-step-leaves (own.Writer b takes answered) n = writer-step-leaves w b.0 (w.writers b.0).known (w.writers b.0).told takes answered n (h b.0).fits (h b.0).queue (h b.0).kept
    own-step-leaves (own.Reader i n r answered) _ = aside-leaves (own_reader w i n.0 r answered) (own-reader-aside w i n.0 r answered)
    own-step-leaves (own.Recover i n b members answers) _ = aside-leaves (own_recover w i n.0 b members answers) (own-recover-aside w i n.0 b members answers)
    own-step-leaves (own.Primary i) _ = aside-leaves (own_primary w i) (own-primary-aside w i)

    unless-leaves : (fails : Bool) (o : Option Change) → IfSome o Leaves → IfSome (unless_fails fails o) Leaves
    unless-leaves true o q = tt
    unless-leaves false o q = q

    upper-leaves : (u : Upper) (c : ℕ) (x : Next) (fails : Bool) → IfSome (upper_up u w c x fails) Leaves
    upper-leaves (by_writer b) c x fails = unless-leaves fails (writer_up w b c x) (writer-up-leaves w b c x (h b))
    upper-leaves (by_member d) c x fails = aside-leaves (mirror_up (w.lowers d) w d x fails) (mirror-up-aside (w.lowers d) w d x fails)
    upper-leaves (by_reader i) c x fails = unless-leaves fails (reader_up w i c x) (aside-leaves (reader_up w i c x) (reader-up-aside w i c x))
    upper-leaves (by_primary i place) c x fails = unless-leaves fails (primary_up w i place c x) (aside-leaves (primary_up w i place c x) (primary-up-aside w i place c x))

    -- WORLDS

    apply-stands : (k : Change) → Leaves k → AllStand (apply w k)
    unfolding apply
    apply-stands k n b = put-each (λ (j : ℕ) (x : Writing). Stands x) w.writers k.writer_at k.writer n h b

    changed-stands : (o : Option Change) → IfSome o Leaves → IfSome (changed w o) AllStand
    changed-stands None n = tt
    changed-stands (Some k) n = apply-stands k n

  -- DELIVERIES

  down-taken-stands : (w : World) (c : ℕ) (x : Next) → AllStand w → AllStand (down_taken w c x)
  unfolding down_taken
  down-taken-stands w c x h b = h b

  up-taken-stands : (w : World) (c : ℕ) (x : Next) → AllStand w → AllStand (up_taken w c x)
  unfolding up_taken
  up-taken-stands w c x h b = h b

  down-as-stands : (w : World) (c : ℕ) (answered fails : Bool) (o : Option Next) → AllStand w → IfSome (down_as w c answered fails o) AllStand
  down-as-stands w c answered fails None h = tt
  down-as-stands w c answered fails (Some x) h =
      let v : World = down_taken w c x in
      let r : AllStand v = down-taken-stands w c x h in
      changed-stands v r (lower_down (w.lowers c) v c x answered fails) (aside-leaves v r (lower_down (w.lowers c) v c x answered fails) (lower-down-aside (w.lowers c) v c x answered fails))

  down-stands : (w : World) (c : ℕ) (answered fails : Bool) → AllStand w → IfSome (down_event w c answered fails) AllStand
  down-stands w c answered fails h = when-each AllStand (is_served w c) _ (λ _. down-as-stands w c answered fails (next_down w c) h)

  acts-stands : (w : World) (c : ℕ) (fails : Bool) → AllStand w → IfSome (ready_event w c fails) AllStand
  acts-stands w c fails h = when-each AllStand (is_served w c) _
      (λ _. changed-stands w h (lower_ready (w.lowers c) w c fails) (aside-leaves w h (lower_ready (w.lowers c) w c fails) (lower-ready-aside (w.lowers c) w c fails)))

  up-as-stands : (w : World) (c : ℕ) (fails : Bool) (o : Option Next) → AllStand w → IfSome (up_as w c fails o) AllStand
  up-as-stands w c fails None h = tt
  up-as-stands w c fails (Some x) h =
      let v : World = up_taken w c x in
      let r : AllStand v = up-taken-stands w c x h in
      changed-stands v r (upper_up (w.dialled c).upper v c x fails) (upper-leaves v r (w.dialled c).upper c x fails)

  up-stands : (w : World) (c : ℕ) (fails : Bool) → AllStand w → IfSome (up_event w c fails) AllStand
  up-stands w c fails h = when-each AllStand (nat_lt c w.next_conn) _ (λ _. up-as-stands w c fails (next_up w c) h)

  fault-stands : (w : World) (d : Delivery) → AllStand w → IfSome (fault_event w d) AllStand
  fault-stands w (delivery.Down c) h = down-stands w c.0 false true h
  fault-stands w (delivery.Ready c) h = acts-stands w c.0 true h
  fault-stands w (delivery.Up c) h = up-stands w c.0 true h

  -- ALL EVENTS

  lost-stands : (w : World) (c : ℕ) (way : Direction) (more : ℕ) → AllStand w → AllStand (lost w c way more)
  lost-stands w c direction.Down more h b = h b
  lost-stands w c direction.Up more h b = h b

  where-stands : (test : Bool) (v : World) → AllStand v → IfSome (where_so test v) AllStand
  where-stands true v h = h
  where-stands false v h = tt

  outcome-stands : (w : World) (e : Event) → EventNames Of e → AllStand w → IfSome (outcome w e) AllStand
  unfolding outcome restart
  outcome-stands w (event.Own s) n h = changed-stands w h (own_change w s) (own-step-leaves w h s n)
  outcome-stands w (event.Office c) n h = changed-stands w h (office_event w c) (office-leaves w h c)
  outcome-stands w (event.Down c answered) n h = down-stands w c.0 answered false h
  outcome-stands w (event.Ready c) n h = acts-stands w c.0 false h
  outcome-stands w (event.Up c) n h = up-stands w c.0 false h
  outcome-stands w (event.Lost c way more) n h = where-stands (nat_lt c.0 w.next_conn) (lost w c.0 way more) (lost-stands w c.0 way more h)
  outcome-stands w (event.Fault d) n h = fault-stands w d h
  outcome-stands w (event.Stop n) _ h = where-stands (w.running n.0) (stop w n.0) h
  outcome-stands w (event.Restart n list) _ h = where-stands (nat_lt n.0 w.nodes && not (w.running n.0)) (restart w n.0 list) h

  after-stands : (w : World) (e : Event) (o : Option World) → AllStand w → IfSome o AllStand → AllStand (after_event w e o)
  after-stands w e None h n b = h b
  after-stands w e (Some v) h n b = n b

  pub happens-stands : (w : World) (e : Event) → EventNames Of e → AllStand w → AllStand (happens w e)
  unfolding happens
  happens-stands w e n h = after-stands w e (outcome w e) h (outcome-stands w e n h)

  run-stands : (w : World) (list : List Event) → AllName Of list → AllStand w → AllStand (run w list)
  run-stands w [] n h = h
  run-stands w (e ∷ list) n h = run-stands (happens w e) list n.1 (happens-stands w e n.0 h)

  pub start-stands : (nodes : ℕ) → AllStand (start nodes)
  unfolding start
  start-stands nodes b = record {
    fits = record { settled = λ e. refl; some = λ e. absurd (false≢true e); each = each-nil Of; conn = λ e. e; early = λ e. e };
    queue = refl;
    alone = λ e. refl;
    kept = fresh-kept (record { 0 = b });
  }

  pub all-stand : (nodes : ℕ) (list : List Event) → AllName Of list → AllStand (run (start nodes) list)
  all-stand nodes list n = run-stands (start nodes) list n (start-stands nodes)

-- ANY NODES

abbrev pub Any : NodeId → Type 0
Any n = Unit {0}

pub any-names : (c : Command) → Names Any c
any-names (command.Create ms) = λ k m e. tt
any-names (command.Append ms) = λ k m e. tt
any-names (command.Write bytes) = tt
any-names (command.Fill count) = tt
any-names command.Hflush = tt
any-names command.Hsync = tt
any-names command.Close = tt

any-takes : (o : Option TakenCommand) → IfSome o (λ t. Names Any t.command)
any-takes None = tt
any-takes (Some t) = any-names t.command

pub any-event : (e : Event) → EventNames Any e
any-event (event.Own (own.Writer b takes answered)) = any-takes takes
any-event (event.Own (own.Reader i n r answered)) = tt
any-event (event.Own (own.Recover i n b members answers)) = tt
any-event (event.Own (own.Primary i)) = tt
any-event (event.Office c) = tt
any-event (event.Down c answered) = tt
any-event (event.Ready c) = tt
any-event (event.Up c) = tt
any-event (event.Lost c way more) = tt
any-event (event.Fault d) = tt
any-event (event.Stop n) = tt
any-event (event.Restart n list) = tt

pub any-events : (list : List Event) → AllName Any list
any-events [] = tt
any-events (e ∷ list) = (any-event e, any-events list)

-- LAWS

rests : (x : Writing) → Stands Any x → Rests x
rests x h = record { queue = h.queue; settled = h.fits.settled refl; members = h.fits.some; alone = h.alone; connected = h.fits.conn }

pub all-rest : AllRest
all-rest nodes events b = rests ((run (start nodes) events).writers b) (all-stand Any nodes events (any-events events) b)

pub members-are : MembersAre
members-are nodes events b n = (all-stand (IsNode nodes) nodes events n b).fits.each.at
