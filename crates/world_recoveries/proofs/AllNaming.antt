-- What recoveries name holds after every list of events.
use Rattle.std.proofs.Common.{◌≡◌, ℕ, ◌<◌, ◌≤◌, ◌+◌, Bool, true, false, List, [], ◌∷◌, Option, Some, None, IfSome, is_none, refl, sym, ap, subst, arith, eqb-true}
use Rattle.std.specs.Prelude.{◌==◌, ◌&&◌, not, nat_lt, if◌then◌else◌}
use Rattle.std.proofs.lemmas.Option.{none-some}
use Rattle.hd_base.specs.declared.numbers.Stamp.{Stamp}
use Rattle.world_laws.specs.World.Caller.{Caller}
use Rattle.world_laws.specs.World.Caller.TheVariants as caller
use Rattle.world_laws.specs.World.Delivery.{Delivery}
use Rattle.world_laws.specs.World.Delivery.TheVariants as delivery
use Rattle.world_laws.specs.World.Direction.{Direction}
use Rattle.world_laws.specs.World.Direction.TheVariants as direction
use Rattle.world_laws.specs.World.Event.{Event}
use Rattle.world_laws.specs.World.Event.TheVariants as event
use Rattle.world_laws.specs.World.OwnStep.{OwnStep}
use Rattle.world_laws.specs.World.OwnStep.TheVariants as own
use Rattle.world_laws.specs.World.Parts.{Upper, by_writer, by_member, by_reader, by_primary}
use Rattle.world_laws.specs.World.Worlds.{World, Change, Stamped, apply, start}
use Rattle.world_laws.specs.World.Connections.{Next, message, the_end, next_down, next_up, down_taken, up_taken, is_alive, is_served}
use Rattle.world_laws.specs.World.Nodes.{node_of, lower_down, lower_ready}
use Rattle.world_laws.specs.World.Clients.{own_writer, own_reader, writer_up, reader_up}
use Rattle.world_laws.specs.World.Primaries.{office_event, primary_up}
use Rattle.world_laws.specs.World.Restarts.{restart}
use Rattle.world_laws.specs.World.Events.{changed, own_change, down_as, down_event, ready_event, unless_fails, upper_up, up_as, up_event, fault_event, lost, stop, where_so, outcome, after_event, happens, run}
use Rattle.world_laws.proofs.FactTables.{when-each, and-left, some-weaker}
use Rattle.world_laws.specs.Stamping.{Givens, none_given, given_with, stamped_in, given_by, given_in, Recorded}
use Rattle.world_laws.proofs.AllRecorded.{happens-recorded, Reached, reached-next, reached-agreed, start-recorded}
use Rattle.world_laws.specs.Carrying.{Carried}
use Rattle.world_laws.proofs.ByteLeaves.{Facts}
use Rattle.world_laws.proofs.AllCarried.{up-taken-facts, happens-carried, reached-facts, at-start, start-carried}
use Rattle.world_laws.proofs.AllSetUp.{given-stays}
use Rattle.world_recoveries.proofs.Quiet.{Quiet}
use Rattle.world_recoveries.proofs.Clients.{own-writer-quiet, writer-up-quiet, own-reader-quiet, reader-up-quiet}
use Rattle.world_recoveries.proofs.Lowers.{lower-ready-quiet, mirror-up-quiet}
use Rattle.std.proofs.Common.{zero, suc, ◌⊎◌, inl, inr, append-nil, slice_get, Result, Ok, Err, ◌∙◌}
use Rattle.std.specs.BTreeMap.{is_at}
use Rattle.std.proofs.lemmas.Bool.{eqb-false}
use Rattle.std.proofs.lemmas.Option.{same_Some}
use Rattle.hd_base.specs.declared.numbers.BlockId.{BlockId}
use Rattle.hd_base.specs.declared.numbers.NodeId.{NodeId}
use Rattle.hd_base.specs.SumRules.{Rule}
use Rattle.name_core.specs.declared.calls.Begun.{Begun}
use Rattle.name_core.specs.declared.calls.OfficeAnswer.{OfficeAnswer}
use Rattle.name_core.specs.declared.calls.OfficeAnswer.TheVariants as office
use Rattle.name_core.specs.declared.calls.OfficeCall.{OfficeCall}
use Rattle.name_core.specs.declared.calls.OfficeCall.TheVariants as call
use Rattle.name_core.specs.declared.records.BlockRecord.{BlockRecord}
use Rattle.name_core.specs.Offices.{OfficeState, block_order, record_of, office_after, answer_to, office_case}
use Rattle.name_core.specs.Steps.{Step, reply}
use Rattle.name_core.proofs.CaseLemmas.{each_case}
use Rattle.op_headers.specs.declared.ops.Op.{Op}
use Rattle.op_headers.specs.declared.ops.Op.TheVariants as op
use Rattle.op_headers.specs.declared.ops.RecoveryOp.{RecoveryOp}
use Rattle.op_headers.specs.declared.ops.RecoveryKind.TheVariants as kind
use Rattle.replica_core.specs.declared.events.Event.{Event as CoreEvent}
use Rattle.world_laws.specs.ReplicaModel.ReplicaEvent.TheVariants as replica_event
use Rattle.world_laws.specs.RecoveryCore.RecoveryReply.{RecoveryReply}
use Rattle.world_laws.specs.RecoveryCore.Members.{Served, recovery_event, serve, serve_faulted}
use Rattle.world_laws.specs.RecoveryCore.OwnStep.{OwnStep as LeadStep}
use Rattle.world_laws.specs.RecoveryCore.OwnStep.TheVariants as lead
use Rattle.world_laws.specs.RecoveryCore.Heard.{Heard}
use Rattle.world_laws.specs.RecoveryCore.Standing.{Standing}
use Rattle.world_laws.specs.RecoveryCore.Primaries.{PrimaryState, begun_with, end_with, heard_as, heard_at, office_refused, request_of, shuts_at, sync_call}
use Rattle.world_laws.specs.RecoveryCore.Primaries as primary
use Rattle.world_laws.specs.WriterCore.Action.{Action}
use Rattle.world_laws.specs.WriterCore.Action.TheVariants as action
use Rattle.world_laws.specs.WriterCore.ClientAnswer.{ClientAnswer}
use Rattle.world_laws.specs.WriterCore.ClientAnswer.TheVariants as answer
use Rattle.world_laws.specs.WriterCore.Command.{Command}
use Rattle.world_laws.specs.WriterCore.Command.TheVariants as command
use Rattle.world_laws.specs.WriterCore.CommandFault.{CommandFault}
use Rattle.world_laws.specs.WriterCore.Intake.{Intake}
use Rattle.world_laws.specs.WriterCore.Phase.{Phase}
use Rattle.world_laws.specs.WriterCore.Phase.TheVariants as phase
use Rattle.world_laws.specs.WriterCore.Waiting.{Waiting}
use Rattle.world_laws.specs.WriterCore.WriterRecord.{WriterRecord}
use Rattle.world_laws.specs.WriterCore.Commands.{admitted}
use Rattle.world_laws.specs.WriterCore.Laws.{NamesCommitted}
use Rattle.world_laws.specs.WriterCore.Transitions.{given, given_as, own_step, dial_step, granted}
use Rattle.world_laws.proofs.WriterCore.StampLemmas.{stamps_are_committed}
use Rattle.world_laws.specs.World.TakenCommand.{TakenCommand}
use Rattle.world_laws.specs.World.Parts.{Message, request, packet, ack, response, read_status, recovery_answer, Place, Lower, idle, writes, serves, recovers, ended_below, Break, Answered, Told, Writing, Leading, Primary, no_primary, was_told, leads, has_led}
use Rattle.world_laws.specs.World.Worlds.{Past, Dial, put}
use Rattle.world_laws.specs.World.Connections.{place_of, is_conn}
use Rattle.world_laws.specs.World.Nodes.{replica_at, broke_at, read_request, write_request, recovery_change, failing_recovery, recovery_request, first_message, next_recovery, mirror_up}
use Rattle.world_laws.specs.World.Clients.{are_members, did, reached_answer, dialled_change, dialling, rest_in, is_empty, is_formed, ruled, command_bytes, writer_step}
use Rattle.world_laws.specs.World.Primaries.{primary_change, is_among_conns, primary_dials, dials_answered, begins_with, begins_as, begins_at, updates_change, leads_step, commits_step, leads_told, own_primary_as, heard_of, listens, hears_change, primary_up_as, stamp_of, stamped_by, asks_writer, asks_primary, writer_asks, primary_commits, primary_asks}
use Rattle.world_laws.specs.World.Safe.{Has}
use Rattle.world_laws.specs.Sessions.{told_stamp, stamp_heard}
use Rattle.world_laws.proofs.FactTables.{if-each}
use Rattle.world_laws.proofs.Agreements as agreements
use Rattle.world_laws.proofs.StampRecording.{other-block, given-each, gives}
use Rattle.world_laws.proofs.ByteOffices.{office-extends}
use Rattle.world_laws.proofs.OfficeSteps.{AsksAs, Asking, own-step-asking, block_in, keeps-other, asks-block, IsPrimarys}
use Rattle.world_laws.proofs.SessionAsides.{Aside, lower-down-aside, lower-ready-aside, mirror-up-aside, own-reader-aside, reader-up-aside}
use Rattle.world_laws.proofs.StampGivens.{put-here, put-there}
use Rattle.world_laws.proofs.StampWalking.{none-is}
use Rattle.world_laws.specs.Stamping.{Entries, HeldOf, known_heard, heard}
use Rattle.world_laws.specs.Carrying.{LowerSays}
use Rattle.world_laws.proofs.AllSetUp.{happens-set, start-set}
use Rattle.world_laws.specs.Joining.{SetUps}
use Rattle.world_recoveries.specs.Recovering.{Recovering}
use Rattle.world_recoveries.specs.Naming.{NoneStale, known_stamp, IsBefore, IsPast, IsNamed, IsBehind, ToldNamed, PrimaryNamed, RequestNamed, Naming, AllNaming}
use Rattle.world_recoveries.proofs.AllRecovering.{all-recovering}
use Rattle.world_recoveries.proofs.Choosing.{own-updates}
use Rattle.world_recoveries.proofs.Leading.{updates-at}
use Rattle.world_recoveries.proofs.Lowers.{write-quiet, read-quiet, unless-quiet, down-quiet}
use Rattle.world_recoveries.proofs.Naming.{Newest, Behind, Opens, Stamps, Names, before-back, past-after, opens-by, keeps-by, named-after, primary-named, naming-apply, IsGranted, granted-by, raises-by}
use Rattle.world_recoveries.proofs.Quiet.{none-asked}

-- STAMPS

heard-stamp : (x : Writing) → stamp_heard x ≡ (heard x).committed
heard-stamp x = go x.told
  where
    go : (o : Option Told) → told_stamp x.known o ≡ (known_heard x.known o).committed
    go None = refl
    go (Some t) = refl

-- the office, and the committed stamp of the writer, are as before
record Leaves (w : World) (k : Change) : Type 0 where
  pub office : k.office ≡ w.office
  pub heard_same : (heard k.writer).committed ≡ (heard (w.writers k.writer_at)).committed

quiet-leaves : (w : World) (k : Change) → agreements.Quiet w k → Leaves w k
quiet-leaves w k q = record { office = q.office; heard_same = sym (heard-stamp k.writer) ∙ q.heard ∙ heard-stamp (w.writers k.writer_at) }

leaves-stamps : (g : Givens) (w : World) (k : Change) → Leaves w k → IfSome k.answered (λ a. a.stamp ≡ known_stamp w a.block) → Stamps g g w k
leaves-stamps g w k q a = record { same = λ b t e x. x; back = λ b t u s e x _ _. x; only = λ b t s x. inl x; opens = λ b e x. inl x; given = λ b t e x. (e, x); writer = inl q.heard_same; answers = a }

leaves-office : (g : Givens) (w : World) (k : Change) → Naming g w → Leaves w k → (b : ℕ) → IfSome (record_of k.office (record { 0 = b })) (Behind w k b)
leaves-office g w k h q b = subst (λ (o : OfficeState). IfSome (record_of o (record { 0 = b })) (Behind w k b)) (sym q.office) (some-weaker (IsBehind w b) (Behind w k b) (record_of w.office (record { 0 = b })) (λ r x. record {
  known = if-each (λ (y : Writing). (heard y).committed.0 ≤ r.committed.0) (b == k.writer_at) k.writer (w.writers b)
      (λ e. omega (arith, x.known, ap (λ (s : Stamp). s.0) q.heard_same, ap (λ (i : ℕ). known_stamp w i) (eqb-true b k.writer_at e))) (λ _. x.known);
  before = x.known;
  answered = x.answered;
}) (h.behind b))

leaves-closes : (g : Givens) (w : World) (k : Change) → Naming g w → Leaves w k → (b : ℕ) → IfSome (record_of k.office (record { 0 = b })) (λ r. IsPast (g b) r.committed.0)
leaves-closes g w k h q b = subst (λ (o : OfficeState). IfSome (record_of o (record { 0 = b })) (λ r. IsPast (g b) r.committed.0)) (sym q.office) (h.closes b)

-- a change that sends no request of a recovery, and leaves the primaries
record NoAsks (w : World) (k : Change) : Type 0 where
  pub sent : (g : Givens) → Carried g (apply w k) → (c j : ℕ) (q : RecoveryOp) → slice_get (k.downs c) j ≡ Some (request (op.Recovery q)) → ⊥
  pub dials : (j : ℕ) (d : Dial) (q : RecoveryOp) → slice_get k.dials j ≡ Some d → d.request ≡ request (op.Recovery q) → ⊥
  pub primary : k.primary ≡ w.primaries k.primary_at

quiet-asks : (w : World) (o : Option Change) → IfSome o (Quiet w) → IfSome o (NoAsks w)
quiet-asks w o h = some-weaker (Quiet w) (NoAsks w) o (λ k r. record { sent = λ g c d j m e. none-asked g w k d j m c r e; dials = λ j d m e s. (r.dials.at j d e).silent m s; primary = r.primary }) h

recovery-asks : (w : World) (c : ℕ) (r : RecoveryOp) (s : Served) (b : Option Break) → NoAsks w (recovery_change w c r s b)
recovery-asks w c r s b = record { sent = λ g a d j m e. none-some _ e; dials = λ j d m e s. none-some d e; primary = refl }

failing-asks : (w : World) (c : ℕ) (r : RecoveryOp) (e : Result CoreEvent RecoveryReply) → IfSome (failing_recovery w c r e) (NoAsks w)
failing-asks w c r (Err said) = tt
failing-asks w c r (Ok e) = recovery-asks w c r (serve_faulted (replica_at w c r.block.block.0)) (broke_at w c r.block.block.0 (replica_event.Other e))

served-asks : (w : World) (c : ℕ) (r : RecoveryOp) (fails : Bool) → IfSome (recovery_request w c r fails) (NoAsks w)
served-asks w c r true = failing-asks w c r (recovery_event r)
served-asks w c r false = recovery-asks w c r (serve (replica_at w c r.block.block.0) r) (w.breaks (node_of w c) r.block.block.0)

op-asks : (w : World) (c : ℕ) (o : Op) (answered fails : Bool) → IfSome (first_message w c (request o) answered fails) (NoAsks w)
op-asks w c (op.Write f) answered fails = quiet-asks w (write_request w c f answered fails) (write-quiet w c f answered fails)
op-asks w c (op.Read r) answered fails = quiet-asks w (read_request w c r fails) (read-quiet w c r fails)
op-asks w c (op.Recovery r) answered fails = served-asks w c r fails
op-asks w c (op.Transfer r) answered fails = quiet-asks w _ (unless-quiet w fails c)
op-asks w c (op.Checksum r) answered fails = quiet-asks w _ (unless-quiet w fails c)

first-asks : (w : World) (c : ℕ) (m : Message) (answered fails : Bool) → IfSome (first_message w c m answered fails) (NoAsks w)
first-asks w c (request o) answered fails = op-asks w c o answered fails
first-asks w c (packet p) answered fails = quiet-asks w _ (unless-quiet w fails c)
first-asks w c (ack a) answered fails = quiet-asks w _ (unless-quiet w fails c)
first-asks w c (response r) answered fails = quiet-asks w _ (unless-quiet w fails c)
first-asks w c (read_status s) answered fails = quiet-asks w _ (unless-quiet w fails c)
first-asks w c (recovery_answer a) answered fails = quiet-asks w _ (unless-quiet w fails c)

next-op-asks : (w : World) (c : ℕ) (o : Op) (fails : Bool) → IfSome (next_recovery w c (message (request o)) fails) (NoAsks w)
next-op-asks w c (op.Write f) fails = quiet-asks w _ (unless-quiet w fails c)
next-op-asks w c (op.Read r) fails = quiet-asks w _ (unless-quiet w fails c)
next-op-asks w c (op.Recovery r) fails = served-asks w c r fails
next-op-asks w c (op.Transfer r) fails = quiet-asks w _ (unless-quiet w fails c)
next-op-asks w c (op.Checksum r) fails = quiet-asks w _ (unless-quiet w fails c)

next-asks : (w : World) (c : ℕ) (x : Next) (fails : Bool) → IfSome (next_recovery w c x fails) (NoAsks w)
next-asks w c (message (request o)) fails = next-op-asks w c o fails
next-asks w c (message (packet p)) fails = quiet-asks w _ (unless-quiet w fails c)
next-asks w c (message (ack a)) fails = quiet-asks w _ (unless-quiet w fails c)
next-asks w c (message (response r)) fails = quiet-asks w _ (unless-quiet w fails c)
next-asks w c (message (read_status s)) fails = quiet-asks w _ (unless-quiet w fails c)
next-asks w c (message (recovery_answer a)) fails = quiet-asks w _ (unless-quiet w fails c)
next-asks w c the_end fails = quiet-asks w _ (unless-quiet w fails c)

lower-asks : (l : Lower) (w : World) (c : ℕ) (x : Next) (answered fails : Bool) → LowerSays w.past c l → IfSome (lower_down l w c x answered fails) (NoAsks w)
lower-asks idle w c (message m) answered fails h = first-asks w c m answered fails
lower-asks idle w c the_end answered fails h = quiet-asks w _ (unless-quiet w fails c)
lower-asks (writes m) w c x answered fails h = quiet-asks w _ (down-quiet w c m x fails h)
lower-asks (serves b s) w c x answered fails h = quiet-asks w _ (unless-quiet w fails c)
lower-asks recovers w c x answered fails h = next-asks w c x fails
lower-asks ended_below w c x answered fails h = tt

quiet-names : (g : Givens) (w : World) (k : Change) → Naming g w → Leaves w k → IfSome k.answered (λ a. a.stamp ≡ known_stamp w a.block) → NoAsks w k → Carried g (apply w k) → Names g g w k
quiet-names g w k h q a r c = record {
  stamps = leaves-stamps g w k q a;
  office = leaves-office g w k h q;
  closes = leaves-closes g w k h q;
  sent = λ d j m e. absurd (r.sent g c d j m e);
  dials = λ j d m e s. absurd (r.dials j d m e s);
  primary = subst (λ (p : Primary). PrimaryNamed g (apply w k) p) (sym r.primary) (primary-named g g w k (w.primaries k.primary_at) (leaves-stamps g w k q a) (h.primaries k.primary_at));
}

-- what a change names once it is carried
record Naming-of (g l : Givens) (w : World) (k : Change) : Type 0 where
  pub names : Carried l (apply w k) → Names g l w k

-- no length is answered
none-answered : (w : World) (k : Change) → k.answered ≡ None → IfSome k.answered (λ a. a.stamp ≡ known_stamp w a.block)
none-answered w k e = subst (λ (o : Option Answered). IfSome o (λ a. a.stamp ≡ known_stamp w a.block)) (sym e) tt

asides-named : (g : Givens) (w : World) (o : Option Change) → Naming g w → IfSome o (Aside w) → IfSome o (agreements.Quiet w) → IfSome o (NoAsks w) → IfSome o (Naming-of g g w)
asides-named g w None h a q r = tt
asides-named g w (Some k) h a q r = record { names = λ c. quiet-names g w k h (quiet-leaves w k q) (none-answered w k a.answered) r c }

-- WRITERS

answered-stamp : (w : World) (b i : ℕ) (waits : Option Waiting) (a : ClientAnswer) → NamesCommitted (heard (w.writers b)).committed (action.Answered i a) → IfSome (reached_answer b waits a) (λ x. x.stamp ≡ known_stamp w x.block)
answered-stamp w b i waits (answer.Reached n s ms) h = ap (λ (z : Stamp). z.0) h
answered-stamp w b i waits (answer.Granted s) h = tt
answered-stamp w b i waits (answer.Abandoned m) h = tt
answered-stamp w b i waits (answer.AllBad m) h = tt
answered-stamp w b i waits (answer.Lost r) h = tt
answered-stamp w b i waits (answer.Refused e) h = tt

abbrev Tells : World → Change → Type 0
Tells w k = IfSome k.answered (λ a. a.stamp ≡ known_stamp w a.block)

did-tells : (w : World) (b : ℕ) (waits : Option Waiting) (a : Action) (y : WriterRecord) (bytes : List ℕ) → NamesCommitted (heard (w.writers b)).committed a → IfSome (did w b waits a y bytes) (Tells w)
did-tells w b waits action.Wait y bytes h = tt
did-tells w b waits action.Took y bytes h = tt
did-tells w b waits (action.Ask c) y bytes h = tt
did-tells w b waits (action.Dial to r) y bytes h = tt
did-tells w b waits (action.Send p) y bytes h = tt
did-tells w b waits (action.Answered i c) y bytes h = answered-stamp w b i waits c h
did-tells w b waits action.Memory y bytes h = tt

dialled-tells : (w : World) (b : ℕ) (x : WriterRecord) (to : NodeId) (r : Op) (answered : Bool) → Tells w (dialled_change w b x to r answered)
dialled-tells w b x to r true = tt
dialled-tells w b x to r false = tt

dialling-tells : (w : World) (b : ℕ) (x : WriterRecord) (a : Action) (answered : Bool) → Tells w (dialling w b x a answered)
dialling-tells w b x action.Wait answered = tt
dialling-tells w b x action.Took answered = tt
dialling-tells w b x (action.Ask c) answered = tt
dialling-tells w b x (action.Dial to r) answered = dialled-tells w b x to r (answered && w.running to.0)
dialling-tells w b x (action.Send p) answered = tt
dialling-tells w b x (action.Answered i c) answered = tt
dialling-tells w b x action.Memory answered = tt

rest-tells : (p : Phase) (w : World) (b : ℕ) (x : WriterRecord) (answered : Bool) → heard (w.writers b) ≡ x → IfSome (rest_in p w b x answered) (Tells w)
rest-tells phase.Closed w b x answered e = tt
rest-tells (phase.Wanted s) w b x answered e = tt
rest-tells (phase.Stamped s stamp) w b x answered e = dialling-tells w b x (dial_step x s stamp).action answered
rest-tells (phase.Requested s stamp) w b x answered e = tt
rest-tells (phase.Accepted s stamp) w b x answered e = tt
rest-tells phase.Opened w b x answered e = tt
rest-tells (phase.Streaming sent) w b x answered e = tt
rest-tells phase.Closing w b x answered e = tt
rest-tells phase.Finished w b x answered e = tt
rest-tells phase.Completed w b x answered e = ap (λ (y : WriterRecord). y.committed.0) (sym e)
rest-tells (phase.Failed f) w b x answered e = tt

-- a step of a writer with this committed stamp
own-tells : (w : World) (b : ℕ) (waits : Option Waiting) (z : WriterRecord) (bytes : List ℕ) → z.committed ≡ (heard (w.writers b)).committed → IfSome (did w b waits (own_step z).action (own_step z).writer bytes) (Tells w)
own-tells w b waits z bytes e = did-tells w b waits (own_step z).action (own_step z).writer bytes (subst (λ (s : Stamp). NamesCommitted s (own_step z).action) e (stamps_are_committed z))

ruled-stamp : (x : WriterRecord) (c : Command) (r : Rule) → (ruled x c r).committed ≡ x.committed
ruled-stamp x (command.Create members) r = refl
ruled-stamp x (command.Append members) r = refl
ruled-stamp x (command.Write bytes) r = refl
ruled-stamp x (command.Fill count) r = refl
ruled-stamp x command.Hflush r = refl
ruled-stamp x command.Hsync r = refl
ruled-stamp x command.Close r = refl

given-stamp : (x : WriterRecord) (c : Command) (r : Result Intake CommandFault) → (given_as x c r).committed ≡ x.committed
given-stamp x c (Ok i) = refl
given-stamp x c (Err e) = refl

step-tells : (w : World) (b : ℕ) (o : Option Told) (takes : Option TakenCommand) (answered : Bool) → (w.writers b).told ≡ o → IfSome (writer_step w b (w.writers b).known o takes answered) (Tells w)
step-tells w b (Some told) None answered e = let x = granted (w.writers b).known told in rest-tells x.phase w b x answered (ap (λ (o : Option Told). known_heard (w.writers b).known o) e)
step-tells w b (Some told) (Some k) answered e = tt
step-tells w b None None answered e = own-tells w b (w.writers b).known.waiting (w.writers b).known [] (ap (λ (o : Option Told). (known_heard (w.writers b).known o).committed) (sym e))
step-tells w b None (Some k) answered e =
    let x = (w.writers b).known in
    let y = ruled x k.command k.rule in
    let z = given y k.command in
    let s = own_step z in
    when-each (Tells w) (is_formed k.command k.rule && not (is_empty (given x k.command).queue)) _ (λ _. when-each (Tells w) (is_empty s.writer.queue) _
    (λ _. own-tells w b y.waiting z (command_bytes y k.command) (given-stamp y k.command (admitted y.intake k.command) ∙ ruled-stamp x k.command k.rule ∙ ap (λ (o : Option Told). (known_heard (w.writers b).known o).committed) (sym e))))

three-named : (g : Givens) (w : World) (o : Option Change) → Naming g w → IfSome o (agreements.Quiet w) → IfSome o (NoAsks w) → IfSome o (Tells w) → IfSome o (Naming-of g g w)
three-named g w None h q r t = tt
three-named g w (Some k) h q r t = record { names = λ c. quiet-names g w k h (quiet-leaves w k q) t r c }

writer-up-tells : (w : World) (b c : ℕ) (x : Next) → IfSome (writer_up w b c x) (Tells w)
writer-up-tells w b c x = when-each (Tells w) (is_conn (w.writers b).conn c && is_none (w.writers b).told) _ (λ _. tt)

-- PRIMARIES

-- a change of a primary alone
primary-names : (g : Givens) (w : World) (k : Change) → Naming g w → Aside w k → IfSome k.answered (λ a. a.stamp ≡ known_stamp w a.block) → ((c j : ℕ) (q : RecoveryOp) → slice_get (k.downs c) j ≡ Some (request (op.Recovery q)) → RequestNamed g w q)
    → ((j : ℕ) (d : Dial) (q : RecoveryOp) → slice_get k.dials j ≡ Some d → d.request ≡ request (op.Recovery q) → RequestNamed g w q) → PrimaryNamed g w k.primary → Naming-of g g w k
primary-names g w k h a t sent dials p =
    let l : Leaves w k = record { office = a.office; heard_same = ap (λ (z : Writing). (heard z).committed) a.writer } in
    let s = leaves-stamps g w k l t in
    record { names = λ _. record { stamps = s; office = leaves-office g w k h l; closes = leaves-closes g w k h l; sent = sent; dials = dials; primary = primary-named g g w k k.primary s p } }

leads-named : (g : Givens) (w : World) (i : ℕ) (l : Leading) → Naming g w → w.primaries i ≡ leads l → IsNamed g w l.state.block.0 l.state.begun.committed l.state.begun.id
leads-named g w i l h e = subst (λ (p : Primary). PrimaryNamed g w p) e (h.primaries i)

same-op : (a b : RecoveryOp) → request (op.Recovery a) ≡ request (op.Recovery b) → a ≡ b
same-op a b e = cc

dial-names : (g : Givens) (w : World) (i : ℕ) (from : Place) (q : RecoveryOp) (place : ℕ) (ns : List NodeId) (bs : List Bool) (j : ℕ) (d : Dial) → slice_get (primary_dials w i from (request (op.Recovery q)) place ns bs) j ≡ Some d → d.request ≡ request (op.Recovery q)
dial-names g w i from q place [] bs j d e = absurd (none-some d e)
dial-names g w i from q place (n ∷ ns) [] j d e = absurd (none-some d e)
dial-names g w i from q place (n ∷ ns) (true ∷ bs) zero d e = sym (ap (λ (x : Dial). x.request) (same_Some _ d e))
dial-names g w i from q place (n ∷ ns) (true ∷ bs) (suc j) d e = dial-names g w i from q (place + 1) ns bs j d e
dial-names g w i from q place (n ∷ ns) (false ∷ bs) j d e = dial-names g w i from q (place + 1) ns bs j d e

begins-named : (g : Givens) (w : World) (i : ℕ) (at : Place) (b : BlockId) (ms : List NodeId) (bs : List Bool) (told : Told) → Naming g w → ToldNamed g w b told → IfSome (begins_as told w i at b ms bs) (Naming-of g g w)
begins-named g w i at b ms bs (Ok (office.Begun begun)) h n =
    let p = begun_with b begun ms (dials_answered w ms bs) in
    primary-names g w (begins_with w i at b begun ms (dials_answered w ms bs)) h (record { office = refl; stamped = refl; writer = refl; bytes = refl; answered = refl }) tt
    (λ c j q e. absurd (none-some _ e))
    (λ j d q e s. subst (λ (x : RecoveryOp). RequestNamed g w x) (same-op (request_of p kind.Init 0) q (sym (dial-names g w i at (request_of p kind.Init 0) 0 ms (dials_answered w ms bs) j d e) ∙ s)) n) n
begins-named g w i at b ms bs (Ok (office.Stamp s)) h n = tt
begins-named g w i at b ms bs (Ok (office.Reopened r)) h n = tt
begins-named g w i at b ms bs (Ok office.Nothing) h n = tt
begins-named g w i at b ms bs (Err x) h n =
    primary-names g w (primary_change w i (has_led (office_refused x))) h (record { office = refl; stamped = refl; writer = refl; bytes = refl; answered = refl }) tt (λ c j q e. absurd (none-some _ e)) (λ j d q e s. absurd (none-some d e)) tt

begins-at-named : (x : Primary) (g : Givens) (w : World) (i n : ℕ) (b : BlockId) (ms : List NodeId) (bs : List Bool) → Naming g w → w.primaries i ≡ x → IfSome (begins_at x w i n b ms bs) (Naming-of g g w)
begins-at-named no_primary g w i n b ms bs h e = tt
begins-at-named (was_told q told) g w i n b ms bs h e =
    when-each (Naming-of g g w) (q.0 == b.0 && w.running n && are_members ms) _ (λ t.
    let same : q.0 ≡ b.0 = eqb-true q.0 b.0 (and-left (q.0 == b.0) (w.running n) (and-left (q.0 == b.0 && w.running n) (are_members ms) t)) in
    begins-named g w i (place_of w n) b ms bs told h (subst (λ (m : ℕ). ToldNamed g w (record { 0 = m }) told) same (subst (λ (p : Primary). PrimaryNamed g w p) e (h.primaries i))))
begins-at-named (leads l) g w i n b ms bs h e = tt
begins-at-named (has_led r) g w i n b ms bs h e = tt

-- a step of a primary that sends only what it names
plain-names : (g : Givens) (w : World) (i : ℕ) (p : Primary) (shuts : ℕ → Bool) → Naming g w → PrimaryNamed g w p → Naming-of g g w (record (primary_change w i p) { shuts = shuts })
plain-names g w i p shuts h n =
    primary-names g w (record (primary_change w i p) { shuts = shuts }) h (record { office = refl; stamped = refl; writer = refl; bytes = refl; answered = refl }) tt (λ c j q e. absurd (none-some _ e)) (λ j d q e s. absurd (none-some d e)) n

leads-step-named : (s : LeadStep) (g : Givens) (w : World) (i : ℕ) (l : Leading) → Naming g w → w.primaries i ≡ leads l → (primary.own_step l.state).does ≡ s → IfSome (leads_step s w i l (primary.own_step l.state).primary) (Naming-of g g w)
leads-step-named lead.Waits g w i l h e d = tt
leads-step-named (lead.Updates c) g w i l h e d =
    let x = own-updates l.state c d in
    let n = leads-named g w i l h e in
    let k = updates_change w i l (primary.own_step l.state).primary c in
    primary-names g w k h (record { office = refl; stamped = refl; writer = refl; bytes = refl; answered = refl }) tt
    (λ v j q s. subst (λ (z : RecoveryOp). RequestNamed g w z) (same-op (request_of l.state kind.Update c.length) q (updates-at (request (op.Recovery (request_of l.state kind.Update c.length))) c.members l.state.members l.conns v j (request (op.Recovery q)) s).is) n)
    (λ j d q s z. absurd (none-some d s)) (subst (λ (z : PrimaryState). IsNamed g w z.block.0 z.begun.committed z.begun.id) (sym x.primary) n)
leads-step-named (lead.Commits c) g w i l h e d = tt
leads-step-named (lead.Ends r) g w i l h e d = plain-names g w i (has_led r) (is_among_conns l.conns) h tt

commits-step-named : (s : LeadStep) (g : Givens) (w : World) (i : ℕ) (l : Leading) (t : Told) → Naming g w → IfSome (commits_step s w i l t) (Naming-of g g w)
commits-step-named lead.Waits g w i l t h = tt
commits-step-named (lead.Updates c) g w i l t h = tt
commits-step-named (lead.Commits c) g w i l t h = plain-names g w i (has_led (end_with l.state c t)) (is_among_conns l.conns) h tt
commits-step-named (lead.Ends r) g w i l t h = tt

leads-told-named : (o : Option Told) (g : Givens) (w : World) (i : ℕ) (l : Leading) → Naming g w → w.primaries i ≡ leads l → IfSome (leads_told o w i l) (Naming-of g g w)
leads-told-named None g w i l h e = leads-step-named (primary.own_step l.state).does g w i l h e refl
leads-told-named (Some t) g w i l h e = commits-step-named (primary.own_step l.state).does g w i l t h

own-primary-named : (x : Primary) (g : Givens) (w : World) (i : ℕ) → Naming g w → w.primaries i ≡ x → IfSome (own_primary_as x w i) (Naming-of g g w)
own-primary-named no_primary g w i h e = tt
own-primary-named (was_told b t) g w i h e = tt
own-primary-named (leads l) g w i h e = when-each (Naming-of g g w) (is_alive w l.at) _ (λ _. leads-told-named l.told g w i l h e)
own-primary-named (has_led r) g w i h e = tt

heard-named : (g : Givens) (w : World) (x : PrimaryState) (place : ℕ) (y : Heard) (o : Option Standing) → IsNamed g w x.block.0 x.begun.committed x.begun.id → IsNamed g w (heard_as x place y o).block.0 (heard_as x place y o).begun.committed (heard_as x place y o).begun.id
heard-named g w x place y None n = n
heard-named g w x place y (Some s) n = n

hears-named : (g : Givens) (w : World) (i : ℕ) (l : Leading) (place c : ℕ) (x : Next) (o : Option Standing) → Naming g w → w.primaries i ≡ leads l → IfSome (hears_change w i l place c x o) (Naming-of g g w)
hears-named g w i l place c x None h e = tt
hears-named g w i l place c x (Some s) h e =
    when-each (Naming-of g g w) (listens l.state.phase s) _ (λ _. plain-names g w i (leads (record l { state = heard_at l.state place (heard_of x) })) (if shuts_at l.state place then is_conn (Some c) else (λ _. false)) h
    (heard-named g w l.state place (heard_of x) (slice_get l.state.standings place) (leads-named g w i l h e)))

primary-up-named : (z : Primary) (g : Givens) (w : World) (i place c : ℕ) (x : Next) → Naming g w → w.primaries i ≡ z → IfSome (primary_up_as z w i place c x) (Naming-of g g w)
primary-up-named no_primary g w i place c x h e = tt
primary-up-named (was_told b t) g w i place c x h e = tt
primary-up-named (leads l) g w i place c x h e = when-each (Naming-of g g w) (is_alive w l.at && is_none l.told) _ (λ _. hears-named g w i l place c x (slice_get l.state.standings place) h e)
primary-up-named (has_led r) g w i place c x h e = tt

-- THE OFFICE

abbrev By : Givens → Change → Givens
By g k = given_with g k.stamped

-- a primary's call leaves the writers, and no committed stamp falls
call-office : (g : Givens) (w : World) (i : ℕ) (c : OfficeCall) (p : Told → Primary) → Naming g w → Recorded g w → IsPrimarys c → (b : ℕ) → IfSome (record_of (asks_primary w i c p).office (record { 0 = b })) (Behind w (asks_primary w i c p) b)
call-office g w i c p h r a b =
    some-weaker (λ k. (j : BlockRecord) × (record_of w.office (record { 0 = b }) ≡ Some j) × (j.committed.0 ≤ k.committed.0)) (Behind w (asks_primary w i c p) b) (record_of (asks_primary w i c p).office (record { 0 = b }))
    (λ k x. let old = subst (λ (o : Option BlockRecord). IfSome o (IsBehind w b)) x.1 (h.behind b) in record {
      known = if-each (λ (y : Writing). (heard y).committed.0 ≤ k.committed.0) (b == 0) (w.writers 0) (w.writers b) (λ e. omega (arith, x.2, old.known, ap (λ (v : ℕ). known_stamp w v) (eqb-true b 0 e))) (λ _. omega (arith, x.2, old.known));
      before = omega (arith, x.2, old.known);
      answered = λ y q e. omega (arith, x.2, old.answered y q e);
    }) (raises-by g w c r a (record { 0 = b }))

call-stamps : (g : Givens) (w : World) (i : ℕ) (c : OfficeCall) (p : Told → Primary) → Recorded g w → IsPrimarys c → Stamps g (By g (asks_primary w i c p)) w (asks_primary w i c p)
call-stamps g w i c p r a =
    let k = asks_primary w i c p in
    let x = office-extends g w c r in
    record {
      same = x.given;
      back = λ b t u s e q j le. x.old b b t u s e q j le;
      only = given-each (λ (b t s : ℕ). (g b t ≡ Some s) ⊎ (t ≡ w.office.next.0)) g k.stamped (some-weaker _ (λ z. (g z.block z.stamp ≡ Some z.session) ⊎ (z.stamp ≡ w.office.next.0)) k.stamped (λ z v. inr v.0) (gives w c).fresh) (λ b t s q. inl q);
      opens = λ b e q. given-each (λ (d t s : ℕ). t ≡ s → (g d t ≡ Some s) ⊎ Opens g w k d) g k.stamped
          (some-weaker _ (λ z. z.stamp ≡ z.session → (g z.block z.stamp ≡ Some z.session) ⊎ Opens g w k z.block) k.stamped (λ z v. λ same. absurd (omega (arith, v, same))) (keeps-by g w c r a)) (λ d t s j _. inl j) b e e q refl;
      given = λ b t e q. given-stays g k.stamped b t e q;
      writer = inl refl;
      answers = tt;
    }

-- no committed stamp falls
call-closes : (g : Givens) (w : World) (i : ℕ) (c : OfficeCall) (p : Told → Primary) → Naming g w → Recorded g w → IsPrimarys c → (b : ℕ) → IfSome (record_of (asks_primary w i c p).office (record { 0 = b })) (λ r. IsPast (By g (asks_primary w i c p) b) r.committed.0)
call-closes g w i c p h r a b = go (record_of k.office (record { 0 = b })) refl (raises-by g w c r a (record { 0 = b }))
  where
    k : Change
    k = asks_primary w i c p

    go : (o : Option BlockRecord) → record_of k.office (record { 0 = b }) ≡ o → IfSome o (λ z. (j : BlockRecord) × (record_of w.office (record { 0 = b }) ≡ Some j) × (j.committed.0 ≤ z.committed.0)) → IfSome o (λ z. IsPast (By g k b) z.committed.0)
    go None e x = tt
    go (Some z) e x = past-after g (By g k) w k b x.0.committed.0 z.committed.0 (call-stamps g w i c p r a) (subst (λ (o : Option BlockRecord). IfSome o (λ j. IsPast (g b) j.committed.0)) x.1 (h.closes b)) (λ v s q le. omega (arith, le, x.2))
        (λ y t s q. subst (λ (o : Option BlockRecord). IfSome o (λ j. t ≤ j.committed.0)) e (y.office t s q))

call-names : (g : Givens) (w : World) (i : ℕ) (c : OfficeCall) (p : Told → Primary) → Naming g w → Recorded g w → IsPrimarys c
    → PrimaryNamed (By g (asks_primary w i c p)) (apply w (asks_primary w i c p)) (p (answer_to w.office c)) → Naming-of g (By g (asks_primary w i c p)) w (asks_primary w i c p)
call-names g w i c p h r a n = record {
  names = λ _. record {
    stamps = call-stamps g w i c p r a;
    office = call-office g w i c p h r a;
    closes = call-closes g w i c p h r a;
    sent = λ d j q e. absurd (none-some _ e);
    dials = λ j d q e z. absurd (none-some d e);
    primary = n;
  };
}

-- what a recovery that begins names
record IsBegun (g : Givens) (w : World) (b : ℕ) (o : Option Stamped) (begun : Begun) : Type 0 where
  pub session : ℕ
  pub given : given_with g o b begun.id.0 ≡ Some session
  pub id_is : begun.id ≡ w.office.next
  pub earlier : session < begun.id.0
  pub past : IsPast (g b) begun.committed.0
  pub known : known_stamp w b ≤ begun.committed.0
  pub answered : (a : Answered) → Has w.answered a → a.block ≡ b → a.stamp ≤ begun.committed.0

abbrev ToldIs : Givens → World → ℕ → Option Stamped → Told → Type 0
ToldIs g w b o (Ok (office.Begun begun)) = IsBegun g w b o begun
ToldIs g w b o _ = Unit {0}

given-new : (g : Givens) (b t e l : ℕ) → given_with g (stamp_of b t e l) b t ≡ Some e
given-new g b t e l = ap (λ (f : ℕ → Option ℕ). f t) (put-here g b (put (g b) t (Some e))) ∙ put-here (g b) t (Some e)

-- a recovery that begins names the committed stamp
abbrev BegunBy : Givens → World → ℕ → OfficeCall → Step OfficeState OfficeAnswer → Type 0
BegunBy g w b c s = c ≡ call.BeginRecovery (record { 0 = b }) → ToldIs g w b (stamped_by w c (reply s)) (reply s)

begun-by : (g : Givens) (w : World) (b : ℕ) (c : OfficeCall) → Naming g w → Recorded g w → BegunBy g w b c (office_case w.office c)
begun-by g w b c h rec = each_case w.office (BegunBy g w b) (record {
  refused = λ d e. λ q. tt;
  created = λ block members none. λ q. tt;
  appended = λ block r is shut short. λ q. tt;
  stamped = λ block r is writers. λ q. tt;
  committed = λ block stamp members r is writers new. λ q. tt;
  completed = λ block stamp bytes r is writers new. λ q. tt;
  begun = λ block r is is_open. λ q. begins block r is (same-call block (record { 0 = b }) q);
  synced = λ block id bytes members r is is_open latest. λ q. tt;
}) c
  where
    same-call : (x y : BlockId) → call.BeginRecovery x ≡ call.BeginRecovery y → x ≡ y
    same-call x y e = cc

    begins : (block : BlockId) (r : BlockRecord) → record_of w.office block ≡ Some r → block ≡ record { 0 = b } → IsBegun g w b (stamp_of block.0 w.office.next.0 (w.session_of r.committed.0) (w.latest block.0)) (record { id = w.office.next; committed = r.committed })
    begins block r is e =
        let old = subst (λ (o : Option BlockRecord). IfSome o (IsBehind w b)) (ap (λ (z : BlockId). record_of w.office z) (sym e) ∙ is) (h.behind b) in
        let held : Entries (g b) (w.latest b) r (heard (w.writers b)) = subst (λ (o : Option BlockRecord). HeldOf (g b) (w.latest b) o (heard (w.writers b))) (ap (λ (z : BlockId). record_of w.office z) (sym e) ∙ is) (rec.blocks b) in
        let early : w.session_of r.committed.0 < w.office.next.0 =
        omega (arith, rec.session b r.committed.0 held.base held.office.committed, held.office.before r.committed.0 held.base held.office.committed, rec.below b r.committed.0 held.base held.office.committed) in
        let past : IsPast (g b) r.committed.0 = subst (λ (o : Option BlockRecord). IfSome o (λ k. IsPast (g b) k.committed.0)) (ap (λ (z : BlockId). record_of w.office z) (sym e) ∙ is) (h.closes b) in
        record { session = w.session_of r.committed.0; id_is = refl; earlier = early; past = past; given = subst (λ (z : BlockId). given_with g (stamp_of z.0 w.office.next.0 (w.session_of r.committed.0) (w.latest z.0)) b w.office.next.0 ≡ Some (w.session_of r.committed.0)) (sym e) (given-new g b w.office.next.0 (w.session_of r.committed.0) (w.latest b)); known = old.known; answered = old.answered }

told-begun : (g : Givens) (w : World) (i : ℕ) (c : OfficeCall) (p : Told → Primary) (b : ℕ) (t : Told) → Recorded g w → IsPrimarys c → ToldIs g w b (asks_primary w i c p).stamped t → ToldNamed (By g (asks_primary w i c p)) (apply w (asks_primary w i c p)) (record { 0 = b }) t
unfolding apply
told-begun g w i c p b (Ok (office.Begun begun)) r a x = record {
  past = record { each = λ v e j q lt. passes v e j q (s.only b e e j) };
  session = x.session;
  given = x.given;
  known = λ _. if-each (λ (y : Writing). (heard y).committed.0 ≤ begun.committed.0) (b == 0) (w.writers 0) (w.writers b) (λ e. omega (arith, x.known, ap (λ (v : ℕ). known_stamp w v) (eqb-true b 0 e))) (λ _. x.known);
  answered = λ a h e _. x.answered a (subst (λ (ys : List Answered). Has ys a) (append-nil w.answered) h) e;
}
  where
    k : Change
    k = asks_primary w i c p

    s : Stamps g (By g k) w k
    s = call-stamps g w i c p r a

    passes : (v e : ℕ) → By g k b e ≡ Some e → IsBefore (By g k b) v e → (g b e ≡ Some e) ⊎ (e ≡ w.office.next.0) → v ≤ begun.committed.0
    passes v e j q (inl old) = x.past.each v e old (before-back g (By g k) w k b v e s old q)
    passes v e j q (inr new) =
        let same : e ≡ begun.id.0 = omega (arith, new, ap (λ (z : Stamp). z.0) x.id_is) in
        absurd (omega (arith, x.earlier, same, same_Some e x.session (sym j ∙ ap (λ (n : ℕ). By g k b n) same ∙ x.given)))
told-begun g w i c p b (Ok (office.Stamp s)) r a x = tt
told-begun g w i c p b (Ok (office.Reopened y)) r a x = tt
told-begun g w i c p b (Ok office.Nothing) r a x = tt
told-begun g w i c p b (Err e) r a x = tt

asked-named : (g : Givens) (w : World) (i : ℕ) (b : BlockId) → Naming g w → Recorded g w → Naming-of g (By g (asks_primary w i (call.BeginRecovery b) (was_told b))) w (asks_primary w i (call.BeginRecovery b) (was_told b))
asked-named g w i b h r =
    let c = call.BeginRecovery b in
    call-names g w i c (was_told b) h r tt (told-begun g w i c (was_told b) b.0 (answer_to w.office c) r tt (begun-by g w b.0 c h r refl))

commits-named : (s : LeadStep) (g : Givens) (w : World) (i : ℕ) (l : Leading) → Naming g w → Recorded g w → w.primaries i ≡ leads l → IfSome (primary_commits s w i l) (λ k. Naming-of g (By g k) w k)
commits-named lead.Waits g w i l h r e = tt
commits-named (lead.Updates c) g w i l h r e = tt
commits-named (lead.Commits c) g w i l h r e =
    let p : Told → Primary = λ told. leads (record l { told = Some told }) in
    let k = asks_primary w i (sync_call l.state c) p in
    call-names g w i (sync_call l.state c) p h r tt
    (named-after g (By g k) w k l.state.block.0 l.state.begun.committed l.state.begun.id (call-stamps g w i (sync_call l.state c) p r tt) (leads-named g w i l h e))
commits-named (lead.Ends c) g w i l h r e = tt

primary-asks-named : (x : Primary) (g : Givens) (w : World) (i : ℕ) (b : BlockId) → Naming g w → Recorded g w → w.primaries i ≡ x → IfSome (primary_asks x w i b) (λ k. Naming-of g (By g k) w k)
primary-asks-named no_primary g w i b h r e = asked-named g w i b h r
primary-asks-named (was_told c t) g w i b h r e = tt
primary-asks-named (leads l) g w i b h r e = when-each (λ k. Naming-of g (By g k) w k) (is_alive w l.at && is_none l.told) _ (λ _. commits-named (primary.own_step l.state).does g w i l h r e)
primary-asks-named (has_led z) g w i b h r e = tt

-- a writer's call: its own block's record, and those of others
grant-names : (g : Givens) (w : World) (b : ℕ) (c : OfficeCall) → Naming g w → Recorded g w → SetUps g w → (w.writers b).told ≡ None → AsksAs (w.writers b).known c → Naming-of g (By g (asks_writer w b c)) w (asks_writer w b c)
grant-names g w b c h r s none a = record {
  names = λ _. record {
    stamps = stamps;
    office = office-of;
    closes = λ d. closes d (record_of k.office (record { 0 = d })) refl;
    sent = λ d j q e. absurd (none-some _ e);
    dials = λ j d q e z. absurd (none-some d e);
    primary = primary-named g (By g k) w k (w.primaries 0) stamps (h.primaries 0);
  };
}
  where
    k : Change
    k = asks_writer w b c

    x : WriterRecord
    x = (w.writers b).known

    y : WriterRecord
    y = granted x (answer_to w.office c)

    is : heard (w.writers b) ≡ x
    is = ap (λ (o : Option Told). known_heard x o) none

    block : x.block ≡ record { 0 = b }
    block = subst (λ (z : WriterRecord). z.block ≡ record { 0 = b }) is (r.writers b)

    low : IfSome (record_of w.office x.block) (λ z. x.committed.0 ≤ z.committed.0)
    low = subst (λ (q : BlockId). IfSome (record_of w.office q) (λ z. x.committed.0 ≤ z.committed.0)) (sym block)
        (some-weaker (IsBehind w b) (λ z. x.committed.0 ≤ z.committed.0) (record_of w.office (record { 0 = b })) (λ z v. subst (λ (u : WriterRecord). u.committed.0 ≤ z.committed.0) is v.known) (h.behind b))

    held : HeldOf (g b) (w.latest b) (record_of w.office x.block) x
    held = subst (λ (q : BlockId). HeldOf (g b) (w.latest b) (record_of w.office q) x) (sym block) (subst (λ (z : WriterRecord). HeldOf (g b) (w.latest b) (record_of w.office (record { 0 = b })) z) is (r.blocks b))

    granted-so : IsGranted (g b) w.office x (office_after w.office c) y
    granted-so = granted-by (g b) (w.latest b) w.office c x a held low

    at-block : (block_in c).0 ≡ b
    at-block = ap (λ (q : BlockId). q.0) (asks-block x c a ∙ block)

    begins : IfSome k.stamped (λ z. z.session ≡ z.stamp → (t e : ℕ) → g b t ≡ Some e → (t ≤ y.committed.0) × IfSome (record_of k.office x.block) (λ z. t ≤ z.committed.0))
    begins = opens-by w (g b) (w.latest b) c x a held (r.below b) (ap (λ (q : BlockId). w.latest q.0) (sym block))

    opened : (z : Stamped) → z.block ≡ (block_in c).0 → ((t e : ℕ) → g b t ≡ Some e → (t ≤ y.committed.0) × IfSome (record_of k.office x.block) (λ z. t ≤ z.committed.0)) → Opens g w k z.block
    opened z e f = subst (λ (d : ℕ). Opens g w k d) (sym (e ∙ at-block)) (record {
      known = λ t v q. subst (λ (u : Writing). t ≤ (heard u).committed.0) (sym (put-here w.writers b k.writer)) (f t v q).0;
      office = λ t v q. subst (λ (q : BlockId). IfSome (record_of k.office q) (λ z. t ≤ z.committed.0)) block (f t v q).1;
    })

    both : (o : Option Stamped) → IfSome o (λ z. (z.stamp ≡ w.office.next.0) × (z.block ≡ (block_in c).0) × (z.stamp < k.office.next.0)) → IfSome o (λ z. z.session ≡ z.stamp → (t e : ℕ) → g b t ≡ Some e → (t ≤ y.committed.0) × IfSome (record_of k.office x.block) (λ z. t ≤ z.committed.0))
        → IfSome o (λ z. z.stamp ≡ z.session → (g z.block z.stamp ≡ Some z.session) ⊎ Opens g w k z.block)
    both None u v = tt
    both (Some z) u v = λ e. inr (opened z u.1 (v (sym e)))

    stamps : Stamps g (By g k) w k
    stamps =
        let x = office-extends g w c r in
        record {
          same = x.given;
          back = λ d t u s e q j le. x.old d d t u s e q j le;
          only = given-each (λ (d t s : ℕ). (g d t ≡ Some s) ⊎ (t ≡ w.office.next.0)) g k.stamped (some-weaker _ (λ z. (g z.block z.stamp ≡ Some z.session) ⊎ (z.stamp ≡ w.office.next.0)) k.stamped (λ z v. inr v.0) (gives w c).fresh) (λ d t s q. inl q);
          opens = λ d e q. given-each (λ (v t s : ℕ). t ≡ s → (g v t ≡ Some s) ⊎ Opens g w k v) g k.stamped (both k.stamped (gives w c).fresh begins) (λ v t s j _. inl j) d e e q refl;
          given = λ d t e q. given-stays g k.stamped d t e q;
          writer = subst (λ (z : WriterRecord). Newest (g b) z y) (sym is) granted-so.newest;
          answers = tt;
        }

    -- the last stamp before a session isn't above the committed one, which doesn't fall
    closes : (d : ℕ) (o : Option BlockRecord) → record_of k.office (record { 0 = d }) ≡ o → IfSome o (λ z. IsPast (By g k d) z.committed.0)
    closes d None e = tt
    closes d (Some z) e = from (record_of w.office (record { 0 = d })) refl
      where
        grown : (v : BlockRecord) → record_of w.office (record { 0 = d }) ≡ Some v → (t : Bool) → (d == b) ≡ t → v.committed.0 ≤ z.committed.0
        grown v f true q =
            let own : (o : OfficeState) (j : BlockRecord) → record_of o (record { 0 = d }) ≡ Some j → record_of o x.block ≡ Some j = λ o j u. ap (λ (i : BlockId). record_of o i) (block ∙ ap (λ (n : ℕ). record { 0 = n }) (sym (eqb-true d b q))) ∙ u in
            subst (λ (u : Option BlockRecord). IfSome u (λ i. v.committed.0 ≤ i.committed.0)) (own k.office z e) (subst (λ (u : Option BlockRecord). IfSome u (λ i. IfSome (record_of k.office x.block) (λ j. i.committed.0 ≤ j.committed.0))) (own w.office v f) granted-so.before)
        grown v f false q =
            let apart = eqb-false d b q in
            let other : is_at (block_order (record { 0 = d })) (block_in c) ≡ false = other-block (block_in c) (record { 0 = d }) (λ u. apart (u ∙ at-block)) in
            omega (arith, ap (λ (j : BlockRecord). j.committed.0) (same_Some v z (sym f ∙ sym (keeps-other w.office c (record { 0 = d }) other) ∙ e)))

        from : (o : Option BlockRecord) → record_of w.office (record { 0 = d }) ≡ o → IsPast (By g k d) z.committed.0
        from (Some v) f = past-after g (By g k) w k d v.committed.0 z.committed.0 stamps (subst (λ (o : Option BlockRecord). IfSome o (λ j. IsPast (g d) j.committed.0)) f (h.closes d)) (λ n s q le. omega (arith, le, grown v f (d == b) refl))
            (λ u t s q. subst (λ (o : Option BlockRecord). IfSome o (λ j. t ≤ j.committed.0)) e (u.office t s q))
        from None f = past-after g (By g k) w k d 0 z.committed.0 stamps (record { each = λ n e j q. absurd (none-some e (sym (gone.1 e) ∙ j)) }) (λ n s q le. absurd (none-some s (sym (gone.1 n) ∙ q)))
            (λ u t s q. subst (λ (o : Option BlockRecord). IfSome o (λ j. t ≤ j.committed.0)) e (u.office t s q))
          where
            gone : HeldOf (g d) (w.latest d) None (heard (w.writers d))
            gone = subst (λ (o : Option BlockRecord). HeldOf (g d) (w.latest d) o (heard (w.writers d))) f (r.blocks d)

    -- a length that was answered before the block was known is of no stamp
    unknown : (a : Answered) → Has w.answered a → a.block ≡ b → record_of w.office (record { 0 = b }) ≡ None → a.stamp ≡ 0
    unknown q j e z = go (s.answers q j)
      where
        gone : HeldOf (g b) (w.latest b) None (heard (w.writers b))
        gone = subst (λ (o : Option BlockRecord). HeldOf (g b) (w.latest b) o (heard (w.writers b))) z (r.blocks b)

        go : (q.stamp ≡ 0) ⊎ ((v : ℕ) × (g q.block q.stamp ≡ Some v)) → q.stamp ≡ 0
        go (inl v) = v
        go (inr v) = absurd (none-some v.0 (sym (gone.1 q.stamp) ∙ ap (λ (n : ℕ). g n q.stamp) (sym e) ∙ v.1))

    own-record : IfSome (record_of k.office (record { 0 = b })) (λ z. (y.committed.0 ≤ z.committed.0) × (known_stamp w b ≤ z.committed.0) × ((q : Answered) → Has w.answered q → q.block ≡ b → q.stamp ≤ z.committed.0))
    own-record = go (record_of w.office (record { 0 = b })) refl (record_of k.office (record { 0 = b })) refl
      where
        at : (o : OfficeState) → record_of o x.block ≡ record_of o (record { 0 = b })
        at o = ap (λ (q : BlockId). record_of o q) block

        go : (o : Option BlockRecord) → record_of w.office (record { 0 = b }) ≡ o → (p : Option BlockRecord) → record_of k.office (record { 0 = b }) ≡ p
            → IfSome p (λ z. (y.committed.0 ≤ z.committed.0) × (known_stamp w b ≤ z.committed.0) × ((q : Answered) → Has w.answered q → q.block ≡ b → q.stamp ≤ z.committed.0))
        go o e None f = tt
        go None e (Some z) f =
            let gone : HeldOf (g b) (w.latest b) None (heard (w.writers b)) = subst (λ (v : Option BlockRecord). HeldOf (g b) (w.latest b) v (heard (w.writers b))) e (r.blocks b) in
            (subst (λ (v : Option BlockRecord). IfSome v (λ i. y.committed.0 ≤ i.committed.0)) (at k.office ∙ f) granted-so.known, omega (arith, gone.2), λ q j u. omega (arith, unknown q j u e))
        go (Some v) e (Some z) f =
            let old : IsBehind w b v = subst (λ (u : Option BlockRecord). IfSome u (IsBehind w b)) e (h.behind b) in
            let up : v.committed.0 ≤ z.committed.0 = subst (λ (u : Option BlockRecord). IfSome u (λ i. v.committed.0 ≤ i.committed.0)) (at k.office ∙ f)
            (subst (λ (u : Option BlockRecord). IfSome u (λ i. IfSome (record_of k.office x.block) (λ j. i.committed.0 ≤ j.committed.0))) (at w.office ∙ e) granted-so.before) in
            (subst (λ (u : Option BlockRecord). IfSome u (λ i. y.committed.0 ≤ i.committed.0)) (at k.office ∙ f) granted-so.known, omega (arith, old.known, up), λ q j u. omega (arith, old.answered q j u, up))

    office-of : (d : ℕ) → IfSome (record_of k.office (record { 0 = d })) (Behind w k d)
    office-of d = go (d == b) refl
      where
        go : (t : Bool) → (d == b) ≡ t → IfSome (record_of k.office (record { 0 = d })) (Behind w k d)
        go true e = subst (λ (n : ℕ). IfSome (record_of k.office (record { 0 = n })) (Behind w k n)) (sym (eqb-true d b e))
            (some-weaker (λ z. (y.committed.0 ≤ z.committed.0) × (known_stamp w b ≤ z.committed.0) × ((q : Answered) → Has w.answered q → q.block ≡ b → q.stamp ≤ z.committed.0)) (Behind w k b) (record_of k.office (record { 0 = b }))
            (λ z v. record { known = subst (λ (u : Writing). (heard u).committed.0 ≤ z.committed.0) (sym (put-here w.writers b k.writer)) v.0; before = v.1; answered = v.2 }) own-record)
        go false e =
            let apart = eqb-false d b e in
            let other : is_at (block_order (record { 0 = d })) (block_in c) ≡ false = other-block (block_in c) (record { 0 = d }) (λ q. apart (q ∙ ap (λ (i : BlockId). i.0) (asks-block x c a ∙ block))) in
            subst (λ (o : Option BlockRecord). IfSome o (Behind w k d)) (sym (keeps-other w.office c (record { 0 = d }) other))
            (some-weaker (IsBehind w d) (Behind w k d) (record_of w.office (record { 0 = d })) (λ z v. record { known = subst (λ (u : Writing). (heard u).committed.0 ≤ z.committed.0) (sym (put-there w.writers b k.writer d apart)) v.known; before = v.known; answered = v.answered }) (h.behind d))

writer-asks-named : (x : Action) (g : Givens) (w : World) (b : ℕ) → Naming g w → Recorded g w → SetUps g w → (w.writers b).told ≡ None → Asking (w.writers b).known x → IfSome (writer_asks x w b) (λ k. Naming-of g (By g k) w k)
writer-asks-named action.Wait g w b h r s e q = tt
writer-asks-named action.Took g w b h r s e q = tt
writer-asks-named (action.Ask c) g w b h r s e q = grant-names g w b c h r s e q
writer-asks-named (action.Dial to o) g w b h r s e q = tt
writer-asks-named (action.Send p) g w b h r s e q = tt
writer-asks-named (action.Answered n a) g w b h r s e q = tt
writer-asks-named action.Memory g w b h r s e q = tt

office-named : (g : Givens) (w : World) (c : Caller) → Naming g w → Recorded g w → SetUps g w → IfSome (office_event w c) (λ k. Naming-of g (By g k) w k)
office-named g w (caller.Writer b) h r s =
    when-each (λ k. Naming-of g (By g k) w k) (is_none (w.writers b.0).told) _ (λ e. writer-asks-named (own_step (w.writers b.0).known).action g w b.0 h r s (none-is (w.writers b.0).told e) (own-step-asking (w.writers b.0).known))
office-named g w (caller.Primary i b) h r s = primary-asks-named (w.primaries i) g w i b h r refl

-- a world with the same past, office, writers and primaries
like-named : (g : Givens) (w v : World) (b : ℕ) (named id : Stamp) → v.past ≡ w.past → v.writers ≡ w.writers → IsNamed g w b named id → IsNamed g v b named id
like-named g w v b named id p q h = record {
  session = h.session;
  given = h.given;
  known = subst (λ (f : ℕ → Writing). (heard (f b)).committed.0 < id.0 → (heard (f b)).committed.0 ≤ named.0) (sym q) h.known;
  answered = subst (λ (x : Past). (a : Answered) → Has x.answered a → a.block ≡ b → a.stamp < id.0 → a.stamp ≤ named.0) (sym p) h.answered;
  past = h.past;
}

like-told : (g : Givens) (w v : World) (b : BlockId) (t : Told) → v.past ≡ w.past → v.writers ≡ w.writers → ToldNamed g w b t → ToldNamed g v b t
like-told g w v b (Ok (office.Begun begun)) p q h = like-named g w v b.0 begun.committed begun.id p q h
like-told g w v b (Ok (office.Stamp s)) p q h = tt
like-told g w v b (Ok (office.Reopened r)) p q h = tt
like-told g w v b (Ok office.Nothing) p q h = tt
like-told g w v b (Err e) p q h = tt

like-primary : (g : Givens) (w v : World) (x : Primary) → v.past ≡ w.past → v.writers ≡ w.writers → PrimaryNamed g w x → PrimaryNamed g v x
like-primary g w v no_primary p q h = tt
like-primary g w v (was_told b t) p q h = like-told g w v b t p q h
like-primary g w v (leads l) p q h = like-named g w v l.state.block.0 l.state.begun.committed l.state.begun.id p q h
like-primary g w v (has_led r) p q h = tt

like-naming : (g : Givens) (w v : World) → v.past ≡ w.past → v.office ≡ w.office → v.writers ≡ w.writers → v.primaries ≡ w.primaries → Naming g w → Naming g v
like-naming g w v p o q r h = record {
  behind = λ b. subst (λ (z : OfficeState). IfSome (record_of z (record { 0 = b })) (IsBehind v b)) (sym o) (some-weaker (IsBehind w b) (IsBehind v b) (record_of w.office (record { 0 = b })) (λ k x. record {
    known = subst (λ (f : ℕ → Writing). (heard (f b)).committed.0 ≤ k.committed.0) (sym q) x.known;
    answered = subst (λ (y : Past). (a : Answered) → Has y.answered a → a.block ≡ b → a.stamp ≤ k.committed.0) (sym p) x.answered;
  }) (h.behind b));
  closes = λ b. subst (λ (z : OfficeState). IfSome (record_of z (record { 0 = b })) (λ k. IsPast (g b) k.committed.0)) (sym o) (h.closes b);
  knows = λ b. subst (λ (f : ℕ → Writing). IsPast (g b) (heard (f b)).committed.0) (sym q) (h.knows b);
  asked = λ c i m e. like-named g w v m.block.block.0 m.block.stamp m.recovery p q (h.asked c i m (subst (λ (y : Past). slice_get (y.downs c) i ≡ Some (request (op.Recovery m))) p e));
  primaries = λ i. subst (λ (f : ℕ → Primary). PrimaryNamed g v (f i)) (sym r) (like-primary g w v (w.primaries i) p q (h.primaries i));
}

-- both of a test
when-both : {A : Type 0} (Q P : A → Type 0) (b : Bool) (o : Option A) → IfSome (if b then o else None) Q → (IfSome o Q → IfSome o P) → IfSome (if b then o else None) P
when-both Q P true o q h = h q
when-both Q P false o q h = tt

-- EVENTS

changed-naming : (g l : Givens) (w : World) (o : Option Change) → Naming g w → IfSome (changed w o) (Carried l) → IfSome o (Naming-of g l w) → IfSome (changed w o) (Naming l)
changed-naming g l w None h c n = tt
changed-naming g l w (Some k) h c n = naming-apply g l w k h (n.names c)

office-naming : (g : Givens) (w : World) (o : Option Change) → Naming g w → IfSome (changed w o) (Carried (given_with g (stamped_in o))) → IfSome o (λ k. Naming-of g (By g k) w k) → IfSome (changed w o) (Naming (given_with g (stamped_in o)))
office-naming g w None h c n = tt
office-naming g w (Some k) h c n = naming-apply g (By g k) w k h (n.names c)

down-taken-naming : (g : Givens) (w : World) (c : ℕ) (x : Next) → Naming g w → Naming g (down_taken w c x)
unfolding down_taken
down-taken-naming g w c x h = like-naming g w (down_taken w c x) refl refl refl refl h

up-taken-naming : (g : Givens) (w : World) (c : ℕ) (x : Next) → Naming g w → Naming g (up_taken w c x)
unfolding up_taken
up-taken-naming g w c x h = like-naming g w (up_taken w c x) refl refl refl refl h

lower-no-asks : (w : World) (c : ℕ) (x : Next) (answered fails : Bool) → LowerSays w.past c (w.lowers c) → IfSome (lower_down (w.lowers c) (down_taken w c x) c x answered fails) (NoAsks (down_taken w c x))
unfolding down_taken
lower-no-asks w c x answered fails h = lower-asks (w.lowers c) (down_taken w c x) c x answered fails h

down-as-naming : (g : Givens) (w : World) (c : ℕ) (answered fails : Bool) (o : Option Next) → Facts g w → Naming g w → IfSome (down_as w c answered fails o) (Carried g) → IfSome (down_as w c answered fails o) (Naming g)
down-as-naming g w c answered fails None f h q = tt
down-as-naming g w c answered fails (Some x) f h q =
    let v = down_taken w c x in
    let a = lower-down-aside (w.lowers c) v c x answered fails in
    changed-naming g g v (lower_down (w.lowers c) v c x answered fails) (down-taken-naming g w c x h) q
    (asides-named g v (lower_down (w.lowers c) v c x answered fails) (down-taken-naming g w c x h) a (agreements.asides-quiet v _ a) (lower-no-asks w c x answered fails (f.carried.lowers c)))

down-naming : (g : Givens) (w : World) (c : ℕ) (answered fails : Bool) → Facts g w → Naming g w → IfSome (down_event w c answered fails) (Carried g) → IfSome (down_event w c answered fails) (Naming g)
down-naming g w c answered fails f h q = when-both (Carried g) (Naming g) (is_served w c) _ q (λ z. down-as-naming g w c answered fails (next_down w c) f h z)

ready-naming : (g : Givens) (w : World) (c : ℕ) (fails : Bool) → Facts g w → Naming g w → IfSome (ready_event w c fails) (Carried g) → IfSome (ready_event w c fails) (Naming g)
ready-naming g w c fails f h q =
    let o = lower_ready (w.lowers c) w c fails in
    let a = lower-ready-aside (w.lowers c) w c fails in
    when-both (Carried g) (Naming g) (is_served w c) _ q (λ z. changed-naming g g w o h z (asides-named g w o h a (agreements.asides-quiet w o a) (quiet-asks w o (lower-ready-quiet (w.lowers c) w c fails (f.carried.lowers c)))))

unless-named : (g : Givens) (w : World) (fails : Bool) (o : Option Change) → IfSome o (Naming-of g g w) → IfSome (unless_fails fails o) (Naming-of g g w)
unless-named g w true o h = tt
unless-named g w false o h = h

upper-named : (u : Upper) (g : Givens) (w : World) (c : ℕ) (x : Next) (fails : Bool) → Facts g w → Naming g w → IfSome (upper_up u w c x fails) (Naming-of g g w)
upper-named (by_writer b) g w c x fails f h =
    unless-named g w fails (writer_up w b c x) (three-named g w (writer_up w b c x) h (agreements.writer-up-quiet w b c x) (quiet-asks w (writer_up w b c x) (writer-up-quiet w b c x)) (writer-up-tells w b c x))
upper-named (by_member d) g w c x fails f h =
    let o = mirror_up (w.lowers d) w d x fails in
    let a = mirror-up-aside (w.lowers d) w d x fails in
    asides-named g w o h a (agreements.asides-quiet w o a) (quiet-asks w o (mirror-up-quiet (w.lowers d) w d x fails (f.carried.lowers d)))
upper-named (by_reader i) g w c x fails f h =
    let a = reader-up-aside w i c x in
    unless-named g w fails (reader_up w i c x) (asides-named g w (reader_up w i c x) h a (agreements.asides-quiet w (reader_up w i c x) a) (quiet-asks w (reader_up w i c x) (reader-up-quiet w i c x)))
upper-named (by_primary i p) g w c x fails f h = unless-named g w fails (primary_up w i p c x) (primary-up-named (w.primaries i) g w i p c x h refl)

up-as-naming : (g : Givens) (w : World) (c : ℕ) (fails : Bool) (o : Option Next) → Facts g w → Naming g w → IfSome (up_as w c fails o) (Carried g) → IfSome (up_as w c fails o) (Naming g)
up-as-naming g w c fails None f h q = tt
up-as-naming g w c fails (Some x) f h q =
    let v = up_taken w c x in
    let n = up-taken-naming g w c x h in
    changed-naming g g v (upper_up (w.dialled c).upper v c x fails) n q (upper-named (w.dialled c).upper g v c x fails (up-taken-facts g w c x f) n)

up-naming : (g : Givens) (w : World) (c : ℕ) (fails : Bool) → Facts g w → Naming g w → IfSome (up_event w c fails) (Carried g) → IfSome (up_event w c fails) (Naming g)
up-naming g w c fails f h q = when-both (Carried g) (Naming g) (nat_lt c w.next_conn) _ q (λ z. up-as-naming g w c fails (next_up w c) f h z)

fault-naming : (g : Givens) (w : World) (d : Delivery) → Facts g w → Naming g w → IfSome (fault_event w d) (Carried g) → IfSome (fault_event w d) (Naming g)
fault-naming g w (delivery.Down c) f h q = down-naming g w c.0 false true f h q
fault-naming g w (delivery.Ready c) f h q = ready-naming g w c.0 true f h q
fault-naming g w (delivery.Up c) f h q = up-naming g w c.0 true f h q

own-named : (g : Givens) (w : World) (s : OwnStep) → Naming g w → IfSome (own_change w s) (Naming-of g g w)
own-named g w (own.Writer b takes answered) h =
    let o = own_writer w b.0 takes answered in
    three-named g w o h (agreements.own-writer-quiet w b.0 takes answered) (quiet-asks w o (own-writer-quiet w b.0 takes answered)) (step-tells w b.0 (w.writers b.0).told takes answered refl)
own-named g w (own.Reader i n r answered) h =
    let o = own_reader w i n.0 r answered in
    let a = own-reader-aside w i n.0 r answered in
    asides-named g w o h a (agreements.asides-quiet w o a) (quiet-asks w o (own-reader-quiet w i n.0 r answered))
own-named g w (own.Recover i n b members answers) h = begins-at-named (w.primaries i) g w i n.0 b members answers h refl
own-named g w (own.Primary i) h = own-primary-named (w.primaries i) g w i h refl

where-naming : (g : Givens) (test : Bool) (v : World) → Naming g v → IfSome (where_so test v) (Naming g)
where-naming g true v h = h
where-naming g false v h = tt

lost-naming : (g : Givens) (w : World) (c : ℕ) (way : Direction) (more : ℕ) → Naming g w → Naming g (lost w c way more)
lost-naming g w c direction.Down more h = like-naming g w (lost w c direction.Down more) refl refl refl refl h
lost-naming g w c direction.Up more h = like-naming g w (lost w c direction.Up more) refl refl refl refl h

outcome-naming : (g : Givens) (w : World) (e : Event) → Facts g w → SetUps g w → Naming g w → IfSome (outcome w e) (Carried (given_by g w e)) → IfSome (outcome w e) (Naming (given_by g w e))
unfolding outcome restart
outcome-naming g w (event.Own s) f j h q = changed-naming g g w (own_change w s) h q (own-named g w s h)
outcome-naming g w (event.Office c) f j h q = office-naming g w (office_event w c) h q (office-named g w c h f.recorded j)
outcome-naming g w (event.Down c answered) f j h q = down-naming g w c.0 answered false f h q
outcome-naming g w (event.Ready c) f j h q = ready-naming g w c.0 false f h q
outcome-naming g w (event.Up c) f j h q = up-naming g w c.0 false f h q
outcome-naming g w (event.Lost c way more) f j h q = where-naming g (nat_lt c.0 w.next_conn) (lost w c.0 way more) (lost-naming g w c.0 way more h)
outcome-naming g w (event.Fault d) f j h q = fault-naming g w d f h q
outcome-naming g w (event.Stop n) f j h q = where-naming g (w.running n.0) (stop w n.0) (like-naming g w (stop w n.0) refl refl refl refl h)
outcome-naming g w (event.Restart n list) f j h q =
    where-naming g (nat_lt n.0 w.nodes && not (w.running n.0)) (restart w n.0 list) (like-naming g w (restart w n.0 list) refl refl refl refl h)

idle-naming-office : (g : Givens) (w : World) (o : Option Change) → changed w o ≡ None → Naming g w → Naming (given_with g (stamped_in o)) w
idle-naming-office g w None e h = h
idle-naming-office g w (Some k) e h = absurd (none-some (apply w k) (sym e))

idle-naming : (g : Givens) (w : World) (e : Event) → outcome w e ≡ None → Naming g w → Naming (given_by g w e) w
unfolding outcome
idle-naming g w (event.Own s) i h = h
idle-naming g w (event.Office c) i h = idle-naming-office g w (office_event w c) i h
idle-naming g w (event.Down c answered) i h = h
idle-naming g w (event.Ready c) i h = h
idle-naming g w (event.Up c) i h = h
idle-naming g w (event.Lost c way more) i h = h
idle-naming g w (event.Fault d) i h = h
idle-naming g w (event.Stop n) i h = h
idle-naming g w (event.Restart n list) i h = h

after-naming : (g : Givens) (w : World) (e : Event) (o : Option World) → outcome w e ≡ o → Naming g w → IfSome o (Naming (given_by g w e)) → Naming (given_by g w e) (after_event w e o)
after-naming g w e None i h k = idle-naming g w e i h
after-naming g w e (Some v) i h k = like-naming (given_by g w e) v (record v { last = Some e }) refl refl refl refl k

outcome-carried : (g : Givens) (w : World) (e : Event) (o : Option World) → Carried g (after_event w e o) → IfSome o (Carried g)
outcome-carried g w e None c = tt
outcome-carried g w e (Some v) k = record { downs = k.downs; ups = k.ups; replicas = k.replicas; breaks = k.breaks; lowers = k.lowers; writers = k.writers; entries = k.entries; primaries = k.primaries; led = k.led }

pub happens-naming : (g : Givens) (w : World) (e : Event) → Facts g w → SetUps g w → Carried (given_by g w e) (happens w e) → Naming g w → Naming (given_by g w e) (happens w e)
unfolding happens
happens-naming g w e f j c h = after-naming g w e (outcome w e) refl h (outcome-naming g w e f j h (outcome-carried (given_by g w e) w e (outcome w e) c))

run-naming : (g : Givens) (w : World) (events : List Event) → Reached w → Recorded g w → Carried g w → SetUps g w → Naming g w → Naming (given_in g w events) (run w events)
run-naming g w [] r i c s h = h
run-naming g w (e ∷ events) r i c s h =
    let a = reached-agreed w r in
    let f = reached-facts g w r i c in
    let j = happens-recorded g w e i a in
    let v = happens-carried g w e f a in
    run-naming (given_by g w e) (happens w e) events (reached-next w e r) j v (happens-set g w e f a j.one s) (happens-naming g w e f s v h)

pub start-naming : (nodes : ℕ) → Naming none_given (start nodes)
unfolding start
start-naming nodes = record { closes = λ b. tt; knows = λ b. record { each = λ c e x q. absurd (none-some e x) }; behind = λ b. tt; asked = λ c i q e. absurd (none-some _ e); primaries = λ i. tt }

pub all-naming : AllNaming
all-naming nodes events = run-naming none_given (start nodes) events (at-start nodes) (start-recorded nodes) (start-carried nodes) (start-set nodes) (start-naming nodes)

none-stale : (g : Givens) (w : World) → Recovering g w → Naming g w → NoneStale w
none-stale g w r n c b id i x a has at lt =
    let low = (n.asked c 0 x.asked x.first).answered a has (at ∙ sym x.block) (omega (arith, lt, ap (λ (s : Stamp). s.0) x.recovery)) in
    omega (arith, low, (r.told c b id i x).named_below)

pub all-none-stale : (nodes : ℕ) (events : List Event) → NoneStale (run (start nodes) events)
all-none-stale nodes events = none-stale (given_in none_given (start nodes) events) (run (start nodes) events) (all-recovering nodes events) (all-naming nodes events)
