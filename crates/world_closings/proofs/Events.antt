-- What writers' members have, event by event.
use Rattle.std.proofs.Common.{◌≡◌, ℕ, ◌+◌, ◌⊎◌, inl, inr, arith, Bool, true, false, List, [], ◌∷◌, length, slice_get, Option, Some, None, IfSome, Ok, refl, sym, ◌∙◌, ap, subst, eqb-true}
use Rattle.std.specs.Prelude.{◌&&◌, nat_lt, not, is_none, if◌then◌else◌}
use Rattle.std.proofs.lemmas.Bool.{false≢true}
use Rattle.std.proofs.lemmas.Option.{same_Some}
use Rattle.std.specs.BTreeMap.{is_at}
use Rattle.hd_base.specs.declared.numbers.BlockId.{BlockId}
use Rattle.hd_base.specs.declared.numbers.NodeId.{NodeId}
use Rattle.hd_base.specs.declared.numbers.Stamp.{Stamp}
use Rattle.name_core.specs.declared.calls.OfficeAnswer.{OfficeAnswer}
use Rattle.name_core.specs.declared.calls.OfficeAnswer.TheVariants as office
use Rattle.name_core.specs.declared.calls.OfficeCall.{OfficeCall}
use Rattle.name_core.specs.declared.calls.OfficeCall.TheVariants as call
use Rattle.name_core.specs.declared.records.BlockRecord.{BlockRecord}
use Rattle.name_core.specs.Offices.{OfficeState, block_order, record_of, with_record, office_case, office_after}
use Rattle.name_core.specs.Steps.{Step, state_after, reply}
use Rattle.name_core.proofs.BlockLemmas.{same_or_other, record_of-with_record_same, record_of-with_record_other}
use Rattle.name_core.proofs.CaseLemmas.{each_case}
use Rattle.op_headers.specs.declared.ops.Op.{Op}
use Rattle.op_headers.specs.declared.ops.Op.TheVariants as op
use Rattle.writer_core.specs.declared.actions.Action.{Action}
use Rattle.writer_core.specs.declared.actions.Action.TheVariants as action
use Rattle.writer_core.specs.declared.actions.ClientAnswer.{ClientAnswer}
use Rattle.writer_core.specs.declared.phases.Phase.{Phase}
use Rattle.writer_core.specs.declared.phases.Phase.TheVariants as phase
use Rattle.writer_core.specs.declared.phases.Setup.{Setup}
use Rattle.writer_core.specs.declared.phases.Setup.TheVariants as setup
use Rattle.writer_core.specs.declared.phases.Waiting.{Waiting}
use Rattle.writer_core.specs.declared.records.WriterRecord.{WriterRecord}
use Rattle.writer_core.specs.Requests.{request_for}
use Rattle.writer_core.specs.Transitions.{given, own_step, dial_step_as, open_step, completed_step, dialled_in, dialled, granted, phase_committed}
use Rattle.recovery_core.specs.declared.primary.OwnStep.{OwnStep as LeadStep}
use Rattle.recovery_core.specs.declared.primary.OwnStep.TheVariants as lead
use Rattle.recovery_core.specs.Primaries as primary
use Rattle.world.specs.declared.events.Caller.{Caller}
use Rattle.world.specs.declared.events.Caller.TheVariants as caller
use Rattle.world.specs.declared.events.Delivery.{Delivery}
use Rattle.world.specs.declared.events.Delivery.TheVariants as delivery
use Rattle.world.specs.declared.events.Direction.{Direction}
use Rattle.world.specs.declared.events.Direction.TheVariants as direction
use Rattle.world.specs.declared.events.Event.{Event}
use Rattle.world.specs.declared.events.Event.TheVariants as event
use Rattle.world.specs.declared.events.OwnStep.{OwnStep}
use Rattle.world.specs.declared.events.OwnStep.TheVariants as own
use Rattle.world.specs.declared.events.TakenCommand.{TakenCommand}
use Rattle.world.specs.Parts.{request, packet, Upper, by_writer, by_member, by_reader, by_primary, Told, Writing, Leading, Primary, no_primary, was_told, leads, has_led}
use Rattle.world.specs.Worlds.{World, Change, past_after, apply}
use Rattle.world.specs.Connections.{Next, message, the_end, next_down, next_up, down_taken, up_taken, sent_on, is_alive, is_conn, is_served}
use Rattle.world.specs.Nodes.{lower_down, lower_ready, mirror_up}
use Rattle.world.specs.Clients.{writing_as, reached_answer, writer_change, did, dialled_change, dialling, rest_in, is_empty, is_formed, ruled, command_bytes, takes_command, writer_step, writer_hears, writer_up, own_reader, reader_up}
use Rattle.world.specs.Primaries.{own_recover, own_primary, primary_up, asks_writer, asks_primary, writer_asks, primary_commits, primary_asks, office_event}
use Rattle.world.specs.Restarts.{restart}
use Rattle.world.specs.Events.{changed, own_change, down_as, down_event, ready_event, unless_fails, upper_up, up_as, up_event, fault_event, lost, stop, where_so, outcome}
use Rattle.world_laws.proofs.FactTables.{when-each, put-each, some-weaker, and-left, and-right}
use Rattle.world_laws.specs.Sessions.{IsCommitted}
use Rattle.world_laws.proofs.SessionAsides.{Aside, lower-down-aside, lower-ready-aside, mirror-up-aside, own-reader-aside, own-recover-aside, own-primary-aside, primary-up-aside, reader-up-aside}
use Rattle.world_laws.proofs.OfficeSteps.{AsksAs, Asking, own-step-asking, block_in, keeps-other, asks-block, IsPrimarys}
use Rattle.world_laws.proofs.StampGranting.{granted-create, granted-append, granted-again, granted-commit, granted-complete}
use Rattle.world_laws.proofs.StampRecording.{Agreed, other-block, none-stamp}
use Rattle.world_laws.specs.Stamping.{Givens, known_heard, heard}
use Rattle.world_laws.proofs.ByteAsking.{first-dial}
use Rattle.world_laws.proofs.ByteLeaves.{Facts}
use Rattle.world_laws.proofs.ByteWriting.{Requested, requested}
use Rattle.world_writers.specs.WorldAcks.Acking.{Ends}
use Rattle.world_writers.proofs.WorldAcks.ClosedMoves.{next-sent}
use Rattle.world_writers.proofs.WorldAcks.Frame.{begins-first}
use Rattle.world_writers.proofs.WorldAcks.Turning.{HeardTells, Known}
use Rattle.world_writers.specs.Piping.{PipedOf}
use Rattle.world_writers.specs.WorldFinals.Finishing.{WriterEnds}
use Rattle.world_closings.specs.Answering.{MembersClosed, IsCompleted, AsksToClose, ClosesIn, ClosesOf, Closes}
use Rattle.world_closings.proofs.Nearing.{Passes, passes-then, kept-conn, own-step-passes, open-passes, completed-passes, given-passes, ruled-passes, unanswered-passes, refused-passes}
use Rattle.world_closings.proofs.Hearing.{Later, sets-later, Hears, hears-closes}

-- WHAT IS KNOWN

-- of a world that some events lead to
pub record Before (g : Givens) (t : Ends) (w : World) : Type 0 where
  pub known : Known g t w
  pub piped : (b : ℕ) → PipedOf w b
  pub agreed : Agreed w
  pub ends : (b : ℕ) → WriterEnds (heard (w.writers b))
  pub closes : Closes g w

-- LATER WORLDS

-- the office keeps the blocks that writers have completed
abbrev Keeps : World → World → Type 0
Keeps w v = (b : ℕ) → (heard (w.writers b)).phase ≡ phase.Completed → (s : Stamp) → IsCompleted w b s → IsCompleted v b s

members-later : (g l : Givens) (w v : World) (b : ℕ) (s : Stamp) (ms : List NodeId) → Later g l w v → MembersClosed g w b s ms → MembersClosed l v b s ms
members-later g l w v b s ms k h = record { conn = h.conn; asked = sets-later g l w v h.conn s k h.asked; each = λ m has there. k.closed b s.0 m.0 (h.each m has there) }

asks-later : (g l : Givens) (w v : World) (conn : Option ℕ) → Later g l w v → AsksToClose w.past conn → AsksToClose v.past conn
asks-later g l w v conn k h = record { at = h.at; is = h.is; fields = h.fields; first = begins-first (w.downs h.at) (v.downs h.at) (request (op.Write h.fields)) (k.grows.downs h.at) h.first; stage = h.stage }

pub closes-later : (g l : Givens) (w v : World) (b : ℕ) (conn : Option ℕ) (x : WriterRecord) (p : Phase) → Later g l w v → (p ≡ phase.Completed → (s : Stamp) → IsCompleted w b s → IsCompleted v b s) → ClosesIn g w b conn x p → ClosesIn l v b conn x p
closes-later g l w v b conn x phase.Closed k o h = tt
closes-later g l w v b conn x (phase.Wanted s) k o h = tt
closes-later g l w v b conn x (phase.Stamped s t) k o h = tt
closes-later g l w v b conn x (phase.Requested setup.Create t) k o h = tt
closes-later g l w v b conn x (phase.Requested setup.Append t) k o h = tt
closes-later g l w v b conn x (phase.Requested setup.AppendRecovery t) k o h = tt
closes-later g l w v b conn x (phase.Requested setup.StreamRecovery t) k o h = tt
closes-later g l w v b conn x (phase.Requested setup.CloseRecovery t) k o h = asks-later g l w v conn k h
closes-later g l w v b conn x (phase.Accepted setup.Create t) k o h = tt
closes-later g l w v b conn x (phase.Accepted setup.Append t) k o h = tt
closes-later g l w v b conn x (phase.Accepted setup.AppendRecovery t) k o h = tt
closes-later g l w v b conn x (phase.Accepted setup.StreamRecovery t) k o h = tt
closes-later g l w v b conn x (phase.Accepted setup.CloseRecovery t) k o h = members-later g l w v b t x.members k h
closes-later g l w v b conn x phase.Opened k o h = tt
closes-later g l w v b conn x (phase.Streaming sent) k o h = tt
closes-later g l w v b conn x phase.Closing k o h = tt
closes-later g l w v b conn x phase.Finished k o h = members-later g l w v b x.committed x.members k h
closes-later g l w v b conn x phase.Completed k o h = (members-later g l w v b x.committed x.members k h.0, o refl x.committed h.1)
closes-later g l w v b conn x (phase.Failed f) k o h = tt

pub same-office : (w v : World) → v.office ≡ w.office → Keeps w v
same-office w v e b q s h = record { entry = h.entry; is = subst (λ (o : OfficeState). record_of o (record { 0 = b }) ≡ Some h.entry) (sym e) h.is; closed = h.closed; committed = h.committed }

-- CHANGES

-- the writers of a world, as a later world has what they had
abbrev Old : Givens → World → World → Type 0
Old l w v = (b : ℕ) → ClosesOf l v b (w.writers b)

-- What a change makes of its writer, in a world that differs from the one before the event in marks alone.
record Turn (g l : Givens) (u w : World) (k : Change) : Type 0 where
  pub office : k.office ≡ w.office
  pub turn : Later g l u (apply w k) → Old l w (apply w k) → ClosesOf l (apply w k) k.writer_at k.writer

old-of : (g l : Givens) (t : Ends) (u w v : World) → Before g t u → ((b : ℕ) → w.writers b ≡ u.writers b) → Later g l u v → Keeps u v → Old l w v
old-of g l t u w v h same k o b =
    subst (λ (z : Writing). ClosesOf l v b z) (sym (same b)) (closes-later g l u v b (u.writers b).conn (heard (u.writers b)) (heard (u.writers b)).phase k (o b) (h.closes.writers b))

changed-closes : (g l : Givens) (t : Ends) (u w : World) (o : Option Change) → Before g t u → ((b : ℕ) → w.writers b ≡ u.writers b) → w.office ≡ u.office → IfSome (changed w o) (Later g l u) → IfSome o (Turn g l u w) → IfSome (changed w o) (Closes l)
unfolding apply
changed-closes g l t u w None h same e k m = tt
changed-closes g l t u w (Some c) h same e k m =
    let old = old-of g l t u w (apply w c) h same k (same-office u (apply w c) (m.office ∙ e)) in
    record { writers = put-each (λ (b : ℕ) (z : Writing). ClosesOf l (apply w c) b z) w.writers c.writer_at c.writer (m.turn k old) old }

same-turn : (g l : Givens) (u w : World) (k : Change) → k.office ≡ w.office → k.writer ≡ w.writers k.writer_at → Turn g l u w k
same-turn g l u w k o e = record { office = o; turn = λ _ h. subst (λ (z : Writing). ClosesOf l (apply w k) k.writer_at z) (sym e) (h k.writer_at) }

asides-turn : (g l : Givens) (u w : World) (o : Option Change) → IfSome o (Aside w) → IfSome o (Turn g l u w)
asides-turn g l u w o a = some-weaker (Aside w) (Turn g l u w) o (λ k z. same-turn g l u w k z.office z.writer) a

-- a writer's change
turned : (g l : Givens) (u w : World) (b : ℕ) (x y : WriterRecord) (k : Change) → k.office ≡ w.office → k.writer_at ≡ b → k.writer ≡ writing_as y (w.writers b).conn → heard (w.writers b) ≡ x → Passes x y → Turn g l u w k
turned g l u w b x y k o at is q p = record {
  office = o;
  turn = λ _ h.
      subst (λ (z : Writing). ClosesOf l (apply w k) k.writer_at z) (sym is) (subst (λ (d : ℕ). ClosesOf l (apply w k) d (writing_as y (w.writers b).conn)) (sym at)
      (kept-conn l (apply w k) b (w.writers b).conn y y.phase (p l (apply w k) b (w.writers b).conn (subst (λ (z : WriterRecord). ClosesIn l (apply w k) b (w.writers b).conn z z.phase) q (h b)))));
}

did-turn : (g l : Givens) (u w : World) (b : ℕ) (waits : Option Waiting) (a : Action) (x y : WriterRecord) (bytes : List ℕ) → heard (w.writers b) ≡ x → Passes x y → IfSome (did w b waits a y bytes) (Turn g l u w)
did-turn g l u w b waits action.Wait x y bytes q p = tt
did-turn g l u w b waits action.Took x y bytes q p = turned g l u w b x y (record (writer_change w b y) { session = w.latest b; bytes = bytes }) refl refl refl q p
did-turn g l u w b waits (action.Ask c) x y bytes q p = tt
did-turn g l u w b waits (action.Dial to r) x y bytes q p = tt
did-turn g l u w b waits (action.Send d) x y bytes q p = turned g l u w b x y (record (writer_change w b y) { downs = sent_on (w.writers b).conn (packet d ∷ []) }) refl refl refl q p
did-turn g l u w b waits (action.Answered i c) x y bytes q p = turned g l u w b x y (answers i c) refl refl refl q p
  where
    answers : ℕ → ClientAnswer → Change
    answers i c = record (writer_change w b y) { said = record { ordinal = i; answer = c } ∷ []; answered = reached_answer b waits c }
did-turn g l u w b waits action.Memory x y bytes q p = tt

change-turn : (g l : Givens) (u w : World) (b : ℕ) (x y : WriterRecord) → heard (w.writers b) ≡ x → Passes x y → Turn g l u w (writer_change w b y)
change-turn g l u w b x y q p = turned g l u w b x y (writer_change w b y) refl refl refl q p

stays-turn : (g l : Givens) (u w : World) (b : ℕ) (x : WriterRecord) → heard (w.writers b) ≡ x → Turn g l u w (writer_change w b x)
stays-turn g l u w b x q = change-turn g l u w b x x q (λ i v c conn h. h)

-- DIALS

dialled-is : (x : WriterRecord) (s : Setup) (t : Stamp) → x.phase ≡ phase.Stamped s t → dialled x true ≡ record x { phase = phase.Requested s t }
unfolding dialled
dialled-is x s t e = ap (λ (p : Phase). dialled_in x p true) e

-- the request of the recovery of a close asks for one
dialled-closes : (g l : Givens) (w : World) (b : ℕ) (x : WriterRecord) (s : Setup) (stamp : Stamp) (m : NodeId) (ms : List NodeId) → Facts g w → heard (w.writers b) ≡ x
    → ClosesIn l (apply w (dialled_change w b x m (request_for x.block x.committed x.stream s stamp (length x.members) ms) true)) b (Some w.next_conn) (record x { phase = phase.Requested s stamp }) (phase.Requested s stamp)
unfolding apply
dialled-closes g l w b x setup.Create stamp m ms h q = tt
dialled-closes g l w b x setup.Append stamp m ms h q = tt
dialled-closes g l w b x setup.AppendRecovery stamp m ms h q = tt
dialled-closes g l w b x setup.StreamRecovery stamp m ms h q = tt
dialled-closes g l w b x setup.CloseRecovery stamp m ms h q = record {
  at = w.next_conn;
  is = refl;
  fields = r.fields;
  first = subst (λ (c : ℕ). slice_get ((past_after w k).downs c) 0 ≡ Some (request o)) (plus w.next_conn) (first-dial g w k 0 _ h (λ _. refl) refl) ∙ ap (λ (z : Op). Some (request z)) r.is;
  stage = r.kind_is;
}
  where
    o : Op
    o = request_for x.block x.committed x.stream setup.CloseRecovery stamp (length x.members) ms

    k : Change
    k = dialled_change w b x m o true

    r : Requested x.block x.committed x.stream setup.CloseRecovery stamp o
    r = requested x.block x.committed x.stream setup.CloseRecovery stamp (length x.members) ms

    plus : (n : ℕ) → n + 0 ≡ n
    plus n = omega arith

dials-turn : (g l : Givens) (u w : World) (b : ℕ) (x : WriterRecord) (s : Setup) (stamp : Stamp) (m : NodeId) (ms : List NodeId) (answered : Bool) → Facts g w → heard (w.writers b) ≡ x → x.phase ≡ phase.Stamped s stamp
    → Turn g l u w (dialled_change w b x m (request_for x.block x.committed x.stream s stamp (length x.members) ms) answered)
dials-turn g l u w b x s stamp m ms false h q e = change-turn g l u w b x (dialled x false) q (unanswered-passes x)
dials-turn g l u w b x s stamp m ms true h q e = record {
  office = refl;
  turn = λ _ _.
      let k = dialled_change w b x m (request_for x.block x.committed x.stream s stamp (length x.members) ms) true in
      subst (λ (y : WriterRecord). ClosesIn l (apply w k) b (Some w.next_conn) y y.phase) (sym (dialled-is x s stamp e)) (dialled-closes g l w b x s stamp m ms h q);
}

dialling-turn : (g l : Givens) (u w : World) (b : ℕ) (x : WriterRecord) (s : Setup) (stamp : Stamp) (ms : List NodeId) (answered : Bool) → Facts g w → heard (w.writers b) ≡ x → x.phase ≡ phase.Stamped s stamp
    → Turn g l u w (dialling w b x (dial_step_as x s stamp ms).action answered)
dialling-turn g l u w b x s stamp [] answered h q e = stays-turn g l u w b x q
dialling-turn g l u w b x s stamp (m ∷ ms) answered h q e = dials-turn g l u w b x s stamp m ms (answered && w.running m.0) h q e

-- OWN STEPS

rest-turn : (p : Phase) (g l : Givens) (u w : World) (b : ℕ) (x : WriterRecord) (answered : Bool) → x.phase ≡ p → Facts g w → heard (w.writers b) ≡ x → IfSome (rest_in p w b x answered) (Turn g l u w)
rest-turn phase.Closed g l u w b x answered e h q = stays-turn g l u w b x q
rest-turn (phase.Wanted s) g l u w b x answered e h q = stays-turn g l u w b x q
rest-turn (phase.Stamped s stamp) g l u w b x answered e h q = dialling-turn g l u w b x s stamp x.members answered h q e
rest-turn (phase.Requested s stamp) g l u w b x answered e h q = stays-turn g l u w b x q
rest-turn (phase.Accepted s stamp) g l u w b x answered e h q = stays-turn g l u w b x q
rest-turn phase.Opened g l u w b x answered e h q = did-turn g l u w b x.waiting (open_step x).action x (open_step x).writer [] q (open-passes x)
rest-turn (phase.Streaming sent) g l u w b x answered e h q = stays-turn g l u w b x q
rest-turn phase.Closing g l u w b x answered e h q = stays-turn g l u w b x q
rest-turn phase.Finished g l u w b x answered e h q = stays-turn g l u w b x q
rest-turn phase.Completed g l u w b x answered e h q = did-turn g l u w b x.waiting (completed_step x).action x (completed_step x).writer [] q (completed-passes x)
rest-turn (phase.Failed f) g l u w b x answered e h q = stays-turn g l u w b x q

command-turn : (g l : Givens) (u w : World) (b : ℕ) (x : WriterRecord) (k : TakenCommand) → heard (w.writers b) ≡ x → IfSome (takes_command w b x k) (Turn g l u w)
command-turn g l u w b x k q =
    let y = ruled x k.command k.rule in
    let z = given y k.command in
    let s = own_step z in
    when-each (Turn g l u w) (is_formed k.command k.rule && not (is_empty (given x k.command).queue)) _ (λ _. when-each (Turn g l u w) (is_empty s.writer.queue) _
    (λ _. did-turn g l u w b y.waiting s.action x s.writer (command_bytes y k.command) q
    (passes-then x y s.writer (ruled-passes x k.command k.rule) (passes-then y z s.writer (given-passes y k.command) (own-step-passes z)))))

step-turn : (g l : Givens) (u w : World) (b : ℕ) (o : Option Told) (takes : Option TakenCommand) (answered : Bool) → Facts g w → (w.writers b).told ≡ o → IfSome (writer_step w b (w.writers b).known o takes answered) (Turn g l u w)
step-turn g l u w b (Some told) None answered h e =
    let x = granted (w.writers b).known told in rest-turn x.phase g l u w b x answered refl h (ap (λ (o : Option Told). known_heard (w.writers b).known o) e)
step-turn g l u w b (Some told) (Some k) answered h e = tt
step-turn g l u w b None None answered h e =
    let x = (w.writers b).known in did-turn g l u w b x.waiting (own_step x).action x (own_step x).writer [] (ap (λ (o : Option Told). known_heard x o) e) (own-step-passes x)
step-turn g l u w b None (Some k) answered h e = command-turn g l u w b (w.writers b).known k (ap (λ (o : Option Told). known_heard (w.writers b).known o) e)

own-turn : (g l : Givens) (u w : World) (s : OwnStep) → Facts g w → IfSome (own_change w s) (Turn g l u w)
own-turn g l u w (own.Writer b takes answered) h = step-turn g l u w b.0 (w.writers b.0).told takes answered h refl
own-turn g l u w (own.Reader i n x answered) h = asides-turn g l u w (own_reader w i n.0 x answered) (own-reader-aside w i n.0 x answered)
own-turn g l u w (own.Recover i n b members answers) h = asides-turn g l u w (own_recover w i n.0 b members answers) (own-recover-aside w i n.0 b members answers)
own-turn g l u w (own.Primary i) h = asides-turn g l u w (own_primary w i) (own-primary-aside w i)

-- WHAT IS TAKEN

conn-is : (o : Option ℕ) (c : ℕ) → is_conn o c ≡ true → o ≡ Some c
conn-is None c e = absurd (false≢true e)
conn-is (Some d) c e = ap (λ (i : ℕ). Some i) (sym (eqb-true c d e))

none-is : (o : Option Told) → is_none o ≡ true → o ≡ None
none-is None e = refl
none-is (Some x) e = absurd (false≢true e)

heard-at : (g : Givens) (t : Ends) (w : World) (c : ℕ) (x : Next) → Known g t w → next_up w c ≡ Some x → HeardTells g t w c x
heard-at g t w c (message m) h e = h.acked.ups c (w.up_marks c).taken m (next-sent (w.ups c) (w.up_marks c) m e)
heard-at g t w c the_end h e = tt

writer-up-turn : (g l : Givens) (t : Ends) (w : World) (b c : ℕ) (x : Next) → Before g t w → HeardTells g t w c x → IfSome (writer_up (up_taken w c x) b c x) (Turn g l w (up_taken w c x))
unfolding up_taken
writer-up-turn g l t w b c x h n =
    let y = (w.writers b).known in
    when-each (Turn g l w (up_taken w c x)) (is_conn (w.writers b).conn c && is_none (w.writers b).told) _ (λ e.
    let conn = conn-is (w.writers b).conn c (and-left (is_conn (w.writers b).conn c) (is_none (w.writers b).told) e) in
    let at : heard (w.writers b) ≡ y = ap (λ (o : Option Told). known_heard y o) (none-is (w.writers b).told (and-right (is_conn (w.writers b).conn c) (is_none (w.writers b).told) e)) in
    record {
      office = refl;
      turn = λ k old.
          let hears : Hears g t w b c y = record { known = h.known; conn = conn; at = at; piped = h.piped b; ends = subst WriterEnds at (h.ends b) } in
          let v = apply (up_taken w c x) (writer_change (up_taken w c x) b (writer_hears y x)) in
          let before : ClosesIn l v b (Some c) y y.phase = subst (λ (o : Option ℕ). ClosesIn l v b o y y.phase) conn (subst (λ (z : WriterRecord). ClosesIn l v b (w.writers b).conn z z.phase) at (old b)) in
          let after : ClosesIn l v b (w.writers b).conn (writer_hears y x) (writer_hears y x).phase =
          subst (λ (o : Option ℕ). ClosesIn l v b o (writer_hears y x) (writer_hears y x).phase) (sym conn) (hears-closes g l t w v b c y x hears k n before) in
          kept-conn l v b (w.writers b).conn (writer_hears y x) (writer_hears y x).phase after;
    })

unless-turn : (g l : Givens) (u w : World) (fails : Bool) (o : Option Change) → IfSome o (Turn g l u w) → IfSome (unless_fails fails o) (Turn g l u w)
unless-turn g l u w true o h = tt
unless-turn g l u w false o h = h

upper-turn : (d : Upper) (g l : Givens) (t : Ends) (w : World) (c : ℕ) (x : Next) (fails : Bool) → Before g t w → HeardTells g t w c x → IfSome (upper_up d (up_taken w c x) c x fails) (Turn g l w (up_taken w c x))
upper-turn (by_writer b) g l t w c x fails h n = let v = up_taken w c x in unless-turn g l w v fails (writer_up v b c x) (writer-up-turn g l t w b c x h n)
upper-turn (by_member d) g l t w c x fails h n = let v = up_taken w c x in asides-turn g l w v (mirror_up (v.lowers d) v d x fails) (mirror-up-aside (v.lowers d) v d x fails)
upper-turn (by_reader i) g l t w c x fails h n = let v = up_taken w c x in unless-turn g l w v fails (reader_up v i c x) (asides-turn g l w v (reader_up v i c x) (reader-up-aside v i c x))
upper-turn (by_primary i p) g l t w c x fails h n = let v = up_taken w c x in unless-turn g l w v fails (primary_up v i p c x) (asides-turn g l w v (primary_up v i p c x) (primary-up-aside v i p c x))

up-writers : (w : World) (c : ℕ) (x : Next) (b : ℕ) → (up_taken w c x).writers b ≡ w.writers b
unfolding up_taken
up-writers w c x b = refl

up-office : (w : World) (c : ℕ) (x : Next) → (up_taken w c x).office ≡ w.office
unfolding up_taken
up-office w c x = refl

down-writers : (w : World) (c : ℕ) (x : Next) (b : ℕ) → (down_taken w c x).writers b ≡ w.writers b
unfolding down_taken
down-writers w c x b = refl

down-office : (w : World) (c : ℕ) (x : Next) → (down_taken w c x).office ≡ w.office
unfolding down_taken
down-office w c x = refl

up-as-closes : (g l : Givens) (t : Ends) (w : World) (c : ℕ) (fails : Bool) (o : Option Next) → Before g t w → next_up w c ≡ o → IfSome (up_as w c fails o) (Later g l w) → IfSome (up_as w c fails o) (Closes l)
up-as-closes g l t w c fails None h e k = tt
up-as-closes g l t w c fails (Some x) h e k =
    changed-closes g l t w (up_taken w c x) (upper_up (w.dialled c).upper (up_taken w c x) c x fails) h (up-writers w c x) (up-office w c x) k (upper-turn (w.dialled c).upper g l t w c x fails h (heard-at g t w c x h.known e))

-- both of a test
when-both : {A : Type 0} (Q P : A → Type 0) (b : Bool) (o : Option A) → (IfSome o Q → IfSome o P) → IfSome (if b then o else None) Q → IfSome (if b then o else None) P
when-both Q P true o h q = h q
when-both Q P false o h q = tt

up-closes : (g l : Givens) (t : Ends) (w : World) (c : ℕ) (fails : Bool) → Before g t w → IfSome (up_event w c fails) (Later g l w) → IfSome (up_event w c fails) (Closes l)
up-closes g l t w c fails h k = when-both (Later g l w) (Closes l) (nat_lt c w.next_conn) _ (up-as-closes g l t w c fails (next_up w c) h refl) k

down-as-closes : (g l : Givens) (t : Ends) (w : World) (c : ℕ) (answered fails : Bool) (o : Option Next) → Before g t w → IfSome (down_as w c answered fails o) (Later g l w) → IfSome (down_as w c answered fails o) (Closes l)
down-as-closes g l t w c answered fails None h k = tt
down-as-closes g l t w c answered fails (Some x) h k =
    let v = down_taken w c x in
    let d = lower_down (w.lowers c) v c x answered fails in
    changed-closes g l t w v d h (down-writers w c x) (down-office w c x) k (asides-turn g l w v d (lower-down-aside (w.lowers c) v c x answered fails))

down-closes : (g l : Givens) (t : Ends) (w : World) (c : ℕ) (answered fails : Bool) → Before g t w → IfSome (down_event w c answered fails) (Later g l w) → IfSome (down_event w c answered fails) (Closes l)
down-closes g l t w c answered fails h k = when-both (Later g l w) (Closes l) (is_served w c) _ (down-as-closes g l t w c answered fails (next_down w c) h) k

ready-closes : (g l : Givens) (t : Ends) (w : World) (c : ℕ) (fails : Bool) → Before g t w → IfSome (ready_event w c fails) (Later g l w) → IfSome (ready_event w c fails) (Closes l)
ready-closes g l t w c fails h k =
    let d = lower_ready (w.lowers c) w c fails in
    when-both (Later g l w) (Closes l) (is_served w c) _ (λ q. changed-closes g l t w w d h (λ b. refl) refl q (asides-turn g l w w d (lower-ready-aside (w.lowers c) w c fails))) k

fault-closes : (g l : Givens) (t : Ends) (w : World) (d : Delivery) → Before g t w → IfSome (fault_event w d) (Later g l w) → IfSome (fault_event w d) (Closes l)
fault-closes g l t w (delivery.Down c) h k = down-closes g l t w c.0 false true h k
fault-closes g l t w (delivery.Ready c) h k = ready-closes g l t w c.0 true h k
fault-closes g l t w (delivery.Up c) h k = up-closes g l t w c.0 true h k

-- THE OFFICE

-- a call of a primary leaves the blocks that are closed
abbrev LeavesClosed : OfficeState → OfficeCall → Step OfficeState OfficeAnswer → Type 0
LeavesClosed o c s = IsPrimarys c → (q : BlockId) (r : BlockRecord) → record_of o q ≡ Some r → r.is_open ≡ false → record_of (state_after o s) q ≡ Some r

open-elsewhere : (o : OfficeState) (block q : BlockId) (r k m : BlockRecord) → record_of o block ≡ Some r → r.is_open ≡ true → record_of o q ≡ Some k → k.is_open ≡ false → record_of (with_record o block m) q ≡ Some k
open-elsewhere o block q r k m is opens there shut = go (same_or_other block q)
  where
    go : (block ≡ q) ⊎ (is_at (block_order q) block ≡ false) → record_of (with_record o block m) q ≡ Some k
    go (inl e) = absurd (false≢true (sym shut ∙ ap (λ (z : BlockRecord). z.is_open) (same_Some k r (sym there ∙ ap (λ (z : BlockId). record_of o z) (sym e) ∙ is)) ∙ opens))
    go (inr other) = record_of-with_record_other o block q m other ∙ there

leaves-closed : (o : OfficeState) (c : OfficeCall) → LeavesClosed o c (office_case o c)
leaves-closed o c = each_case o (LeavesClosed o) (record {
  refused = λ d e. λ p q r is shut. is;
  created = λ block members none. λ p q r is shut. absurd p;
  appended = λ block r is shut short. λ p q k there s. absurd p;
  stamped = λ block r is writers. λ p q k there s. absurd p;
  committed = λ block stamp members r is writers new. λ p q k there s. absurd p;
  completed = λ block stamp bytes r is writers new. λ p q k there s. absurd p;
  begun = λ block r is opens. λ p q k there shut. open-elsewhere o block q r k (record r { recovery = Some o.next }) is opens there shut;
  synced = λ block id bytes members r is opens latest. λ p q k there shut. open-elsewhere o block q r k (record r { is_open = false; committed = id; members = members; length = bytes }) is opens there shut;
}) c

primary-keeps : (w v : World) (c : OfficeCall) → IsPrimarys c → v.office ≡ office_after w.office c → Keeps w v
primary-keeps w v c p e b q s h = record {
  entry = h.entry;
  is = subst (λ (o : OfficeState). record_of o (record { 0 = b }) ≡ Some h.entry) (sym e) (leaves-closed w.office c p (record { 0 = b }) h.entry h.is h.closed);
  closed = h.closed;
  committed = h.committed;
}

-- a writer's call leaves the other blocks
writer-keeps : (w v : World) (b : ℕ) (c : OfficeCall) → (block_in c).0 ≡ b → v.office ≡ office_after w.office c → ((heard (w.writers b)).phase ≡ phase.Completed → ⊥) → Keeps w v
writer-keeps w v b c at e never d q s h = record {
  entry = h.entry;
  is = subst (λ (o : OfficeState). record_of o (record { 0 = d }) ≡ Some h.entry) (sym e) (keeps-other w.office c (record { 0 = d }) (other-block (block_in c) (record { 0 = d }) apart) ∙ h.is);
  closed = h.closed;
  committed = h.committed;
}
  where
    apart : d ≡ (block_in c).0 → ⊥
    apart z = never (ap (λ (i : ℕ). (heard (w.writers i)).phase) (sym (z ∙ at)) ∙ q)

-- what a writer's members have after its call
abbrev Gains : World → Givens → ℕ → OfficeCall → Step OfficeState OfficeAnswer → Type 0
Gains w l b c s = (x : WriterRecord) (conn : Option ℕ) (v : World) → AsksAs x c → x.block ≡ record { 0 = b } → IsCommitted w.office x.block x.committed → v.office ≡ state_after w.office s
    → ClosesIn l v b conn x x.phase → ClosesIn l v b conn (granted x (reply s)) (granted x (reply s)).phase

unstamped-gains : (l : Givens) (v : World) (b : ℕ) (conn : Option ℕ) (x y : WriterRecord) (s : Setup) (t : Stamp) → x ≡ y → y.phase ≡ phase.Stamped s t → ClosesIn l v b conn x x.phase
unstamped-gains l v b conn x y s t e q = subst (λ (z : WriterRecord). ClosesIn l v b conn z z.phase) (sym e) (subst (λ (p : Phase). ClosesIn l v b conn y p) (sym q) tt)

commit-gains : (l : Givens) (v : World) (b : ℕ) (conn : Option ℕ) (x : WriterRecord) (t : Stamp) (way : Setup) → ClosesIn l v b conn x (phase.Accepted way t) → ClosesIn l v b conn (record x { committed = t; phase = phase_committed way }) (phase_committed way)
commit-gains l v b conn x t setup.Create h = tt
commit-gains l v b conn x t setup.Append h = tt
commit-gains l v b conn x t setup.AppendRecovery h = tt
commit-gains l v b conn x t setup.StreamRecovery h = tt
commit-gains l v b conn x t setup.CloseRecovery h = h

gains : (w : World) (l : Givens) (b : ℕ) (c : OfficeCall) → Gains w l b c (office_case w.office c)
gains w l b c = each_case w.office (Gains w l b) (record {
  refused = λ d e. λ x conn v a own agreed is h. refused-passes x e l v b conn h;
  created = λ block members none. λ x conn v a own agreed is h. unstamped-gains l v b conn (granted x (Ok (office.Stamp w.office.next))) _ setup.Create w.office.next (granted-create x w.office.next a.at) refl;
  appended = λ block r is shut short. λ x conn v a own agreed e h. unstamped-gains l v b conn (granted x (Ok (office.Reopened (record { committed = r.committed; length = r.length; new = w.office.next })))) _ setup.Append w.office.next
      (granted-append x (record { committed = r.committed; length = r.length; new = w.office.next }) a.at short) refl;
  stamped = λ block r is writers. λ x conn v a own agreed e h. unstamped-gains l v b conn (granted x (Ok (office.Stamp w.office.next))) _ a.way w.office.next (granted-again x w.office.next a.way a.at a.again) refl;
  committed = λ block stamp members r is writers new. λ x conn v a own agreed e h.
      subst (λ (z : WriterRecord). ClosesIn l v b conn z z.phase) (sym (granted-commit x stamp a.way a.at a.later)) (commit-gains l v b conn x stamp a.way (subst (λ (p : Phase). ClosesIn l v b conn x p) a.at h));
  completed = λ block stamp bytes r is writers new. λ x conn v a own agreed e h.
      subst (λ (z : WriterRecord). ClosesIn l v b conn z z.phase) (sym (granted-complete x a.at)) (
        subst (λ (p : Phase). ClosesIn l v b conn x p) a.at h,
        record {
          entry = record r { is_open = false; length = bytes };
          is = subst (λ (o : OfficeState). record_of o (record { 0 = b }) ≡ Some (record r { is_open = false; length = bytes })) (sym e)
              (subst (λ (q : BlockId). record_of (with_record w.office block (record r { is_open = false; length = bytes })) q ≡ Some (record r { is_open = false; length = bytes })) (a.block ∙ own) (record_of-with_record_same w.office block r _ is));
          closed = refl;
          committed = sym (agreed r (subst (λ (q : BlockId). record_of w.office q ≡ Some r) a.block is) writers.lease);
        },
      );
  begun = λ block r is opens. λ x conn v a own agreed e h. absurd a;
  synced = λ block id bytes members r is opens latest. λ x conn v a own agreed e h. absurd a;
}) c

-- a writer that asks has not completed its block
asks-not : (x : WriterRecord) (c : OfficeCall) → AsksAs x c → x.phase ≡ phase.Completed → ⊥
asks-not x (call.Create block members) a e = apart (sym a.at ∙ e)
  where
    apart : phase.Wanted setup.Create ≡ phase.Completed → ⊥
    apart q = cc
asks-not x (call.Append block) a e = apart (sym a.at ∙ e)
  where
    apart : phase.Wanted setup.Append ≡ phase.Completed → ⊥
    apart q = cc
asks-not x (call.NewStamp block) a e = apart a.way (sym a.at ∙ e)
  where
    apart : (s : Setup) → phase.Wanted s ≡ phase.Completed → ⊥
    apart s q = cc
asks-not x (call.Commit block stamp members) a e = apart a.way stamp (sym a.at ∙ e)
  where
    apart : (s : Setup) (t : Stamp) → phase.Accepted s t ≡ phase.Completed → ⊥
    apart s t q = cc
asks-not x (call.Complete block stamp bytes) a e = apart (sym a.at ∙ e)
  where
    apart : phase.Finished ≡ phase.Completed → ⊥
    apart q = cc
asks-not x (call.BeginRecovery block) a e = a
asks-not x (call.CommitSync block id bytes members) a e = a

asked-closes : (g l : Givens) (t : Ends) (w : World) (b : ℕ) (c : OfficeCall) → Before g t w → (w.writers b).told ≡ None → (own_step (w.writers b).known).action ≡ action.Ask c → Later g l w (apply w (asks_writer w b c)) → Closes l (apply w (asks_writer w b c))
unfolding apply
asked-closes g l t w b c h e q k =
    let x = (w.writers b).known in
    let v = apply w (asks_writer w b c) in
    let at : heard (w.writers b) ≡ x = ap (λ (o : Option Told). known_heard x o) e in
    let asking : AsksAs x c = subst (λ (z : Action). Asking x z) q (own-step-asking x) in
    let block : x.block ≡ record { 0 = b } = subst (λ (z : WriterRecord). z.block ≡ record { 0 = b }) at (h.known.facts.recorded.writers b) in
    let here : (block_in c).0 ≡ b = ap (λ (i : BlockId). i.0) (asks-block x c asking ∙ block) in
    let agreed : IsCommitted w.office x.block x.committed = subst (λ (i : BlockId). IsCommitted w.office i x.committed) (sym block) (subst (λ (s : Stamp). IsCommitted w.office (record { 0 = b }) s) (none-stamp (w.writers b) e) (h.agreed b)) in
    let old = old-of g l t w w v h (λ d. refl) k (writer-keeps w v b c here refl (λ z. asks-not x c asking (sym (ap (λ (y : WriterRecord). y.phase) at) ∙ z))) in
    let own : ClosesIn l v b (w.writers b).conn x x.phase = subst (λ (z : WriterRecord). ClosesIn l v b (w.writers b).conn z z.phase) at (old b) in
    record { writers = put-each (λ (d : ℕ) (z : Writing). ClosesOf l v d z) w.writers b (asks_writer w b c).writer (gains w l b c x (w.writers b).conn v asking block agreed refl own) old }

asks-closes : (a : Action) (g l : Givens) (t : Ends) (w : World) (b : ℕ) → Before g t w → (w.writers b).told ≡ None → (own_step (w.writers b).known).action ≡ a → IfSome (changed w (writer_asks a w b)) (Later g l w) → IfSome (changed w (writer_asks a w b)) (Closes l)
asks-closes action.Wait g l t w b h e q k = tt
asks-closes action.Took g l t w b h e q k = tt
asks-closes (action.Dial to r) g l t w b h e q k = tt
asks-closes (action.Send p) g l t w b h e q k = tt
asks-closes (action.Answered n c) g l t w b h e q k = tt
asks-closes action.Memory g l t w b h e q k = tt
asks-closes (action.Ask c) g l t w b h e q k = asked-closes g l t w b c h e q k

primary-closes : (g l : Givens) (t : Ends) (w : World) (i : ℕ) (c : OfficeCall) (p : Told → Primary) → IsPrimarys c → Before g t w → Later g l w (apply w (asks_primary w i c p)) → Closes l (apply w (asks_primary w i c p))
unfolding apply
primary-closes g l t w i c p a h k =
    let v = apply w (asks_primary w i c p) in
    let old = old-of g l t w w v h (λ d. refl) k (primary-keeps w v c a refl) in
    record { writers = put-each (λ (d : ℕ) (z : Writing). ClosesOf l v d z) w.writers 0 (w.writers 0) (old 0) old }

commits-closes : (s : LeadStep) (g l : Givens) (t : Ends) (w : World) (i : ℕ) (d : Leading) → Before g t w → IfSome (changed w (primary_commits s w i d)) (Later g l w) → IfSome (changed w (primary_commits s w i d)) (Closes l)
commits-closes lead.Waits g l t w i d h k = tt
commits-closes (lead.Updates c) g l t w i d h k = tt
commits-closes (lead.Commits c) g l t w i d h k = primary-closes g l t w i (primary.sync_call d.state c) (λ told. leads (record d { told = Some told })) tt h k
commits-closes (lead.Ends r) g l t w i d h k = tt

when-changed : (g l : Givens) (w : World) (b : Bool) (o : Option Change) → (b ≡ true → IfSome (changed w o) (Later g l w) → IfSome (changed w o) (Closes l)) → IfSome (changed w (if b then o else None)) (Later g l w) → IfSome (changed w (if b then o else None)) (Closes l)
when-changed g l w true o h k = h refl k
when-changed g l w false o h k = tt

primary-as : (p : Primary) (g l : Givens) (t : Ends) (w : World) (i : ℕ) (b : BlockId) → Before g t w → IfSome (changed w (primary_asks p w i b)) (Later g l w) → IfSome (changed w (primary_asks p w i b)) (Closes l)
primary-as no_primary g l t w i b h k = primary-closes g l t w i (call.BeginRecovery b) (was_told b) tt h k
primary-as (was_told c told) g l t w i b h k = tt
primary-as (leads d) g l t w i b h k = when-changed g l w (is_alive w d.at && is_none d.told) _ (λ _. commits-closes (primary.own_step d.state).does g l t w i d h) k
primary-as (has_led r) g l t w i b h k = tt

office-closes : (g l : Givens) (t : Ends) (w : World) (c : Caller) → Before g t w → IfSome (changed w (office_event w c)) (Later g l w) → IfSome (changed w (office_event w c)) (Closes l)
office-closes g l t w (caller.Writer b) h k =
    when-changed g l w (is_none (w.writers b.0).told) _ (λ e. asks-closes (own_step (w.writers b.0).known).action g l t w b.0 h (none-is (w.writers b.0).told e) refl) k
office-closes g l t w (caller.Primary i b) h k = primary-as (w.primaries i) g l t w i b h k

-- EVENTS

-- a world with the same writers and office
pub still-closes : (g l : Givens) (t : Ends) (w v : World) → Before g t w → ((b : ℕ) → v.writers b ≡ w.writers b) → v.office ≡ w.office → Later g l w v → Closes l v
still-closes g l t w v h same e k = record { writers = λ b. old-of g l t w v v h same k (same-office w v e) b }

where-closes : (g l : Givens) (w : World) (test : Bool) (v : World) → (Later g l w v → Closes l v) → IfSome (where_so test v) (Later g l w) → IfSome (where_so test v) (Closes l)
where-closes g l w true v h k = h k
where-closes g l w false v h k = tt

lost-closes : (g l : Givens) (t : Ends) (w : World) (c : ℕ) (way : Direction) (more : ℕ) → Before g t w → Later g l w (lost w c way more) → Closes l (lost w c way more)
lost-closes g l t w c direction.Down more h k = still-closes g l t w (lost w c direction.Down more) h (λ b. refl) refl k
lost-closes g l t w c direction.Up more h k = still-closes g l t w (lost w c direction.Up more) h (λ b. refl) refl k

pub outcome-closes : (g l : Givens) (t : Ends) (w : World) (e : Event) → Before g t w → IfSome (outcome w e) (Later g l w) → IfSome (outcome w e) (Closes l)
unfolding outcome restart
outcome-closes g l t w (event.Own s) h k = changed-closes g l t w w (own_change w s) h (λ b. refl) refl k (own-turn g l w w s h.known.facts)
outcome-closes g l t w (event.Office c) h k = office-closes g l t w c h k
outcome-closes g l t w (event.Down c answered) h k = down-closes g l t w c.0 answered false h k
outcome-closes g l t w (event.Ready c) h k = ready-closes g l t w c.0 false h k
outcome-closes g l t w (event.Up c) h k = up-closes g l t w c.0 false h k
outcome-closes g l t w (event.Lost c way more) h k = where-closes g l w (nat_lt c.0 w.next_conn) (lost w c.0 way more) (lost-closes g l t w c.0 way more h) k
outcome-closes g l t w (event.Fault d) h k = fault-closes g l t w d h k
outcome-closes g l t w (event.Stop n) h k = where-closes g l w (w.running n.0) (stop w n.0) (still-closes g l t w (stop w n.0) h (λ b. refl) refl) k
outcome-closes g l t w (event.Restart n list) h k =
    where-closes g l w (nat_lt n.0 w.nodes && not (w.running n.0)) (restart w n.0 list) (still-closes g l t w (restart w n.0 list) h (λ b. refl) refl) k
