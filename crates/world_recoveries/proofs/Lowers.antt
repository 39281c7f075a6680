-- What lower ends tell in recoveries.
use Rattle.std.proofs.Common.{◌≡◌, ℕ, zero, suc, ◌<◌, ◌≤◌, Bool, true, false, List, [], ◌∷◌, ◌++◌, take, slice_get, Option, Some, None, IfSome, Result, Ok, Err, IfOk, refl, sym, ◌∙◌, ap, subst, arith, eqb-true}
use Rattle.std.specs.Prelude.{◌==◌, if◌then◌else◌}
use Rattle.std.proofs.lemmas.Bool.Decides.{nat_tests}
use Rattle.std.proofs.lemmas.Option.{none-some, same_Some}
use Rattle.hd_base.specs.declared.numbers.BlockId.{BlockId}
use Rattle.hd_base.specs.declared.numbers.ConnId.{ConnId}
use Rattle.hd_base.specs.declared.numbers.Stamp.{Stamp}
use Rattle.hd_base.specs.declared.states.ReplicaState.{ReplicaState}
use Rattle.hd_base.specs.declared.states.ReplicaState.TheVariants as state
use Rattle.op_headers.specs.declared.answers.RecoveryAnswer.{RecoveryAnswer}
use Rattle.op_headers.specs.declared.ops.Op.{Op}
use Rattle.op_headers.specs.declared.ops.Op.TheVariants as op
use Rattle.op_headers.specs.declared.ops.ReadOp.{ReadOp}
use Rattle.op_headers.specs.declared.ops.RecoveryKind.{RecoveryKind}
use Rattle.op_headers.specs.declared.ops.RecoveryKind.TheVariants as kind
use Rattle.op_headers.specs.declared.ops.RecoveryOp.{RecoveryOp}
use Rattle.op_headers.specs.Values.{WriteFields}
use Rattle.world_laws.specs.NodeRefs.NodeRefs.{ref_of}
use Rattle.world_laws.specs.PacketCodec.Packet.{Packet}
use Rattle.replica_core.specs.declared.events.Answer.{Answer}
use Rattle.replica_core.specs.declared.events.Answer.TheVariants as answer
use Rattle.replica_core.specs.declared.events.Event.{Event}
use Rattle.replica_core.specs.declared.events.Event.TheVariants as event
use Rattle.replica_core.specs.declared.info.ReplicaInfo.{ReplicaInfo}
use Rattle.replica_core.specs.declared.records.ReplicaRecord.{ReplicaRecord}
use Rattle.replica_core.specs.Info.{begin_recovery, end_recovery, is_free_for}
use Rattle.replica_core.specs.Transitions.{Outcome, Taken, record_after, transition, present, with_writer, set_writer, done}
use Rattle.replica_core.specs.Transitions as core
use Rattle.replica_core.specs.Views.{rule_in, written_in}
use Rattle.replica_core.proofs.InfoLemmas.{present_is, begin_recovery_is, end_recovery_is}
use Rattle.replica_core.proofs.StepLemmas.{if_step}
use Rattle.world_laws.specs.ReplicaModel.ReplicaEvent.{ReplicaEvent}
use Rattle.world_laws.specs.ReplicaModel.ReplicaEvent.TheVariants as replica_event
use Rattle.world_laws.specs.ReplicaModel.Rows.{FullReplica, row, broken}
use Rattle.world_laws.specs.RequestRefusals.RequestRefusal.{RequestRefusal}
use Rattle.world_laws.specs.RequestRefusals.RequestRefusal.TheVariants as request_refusal
use Rattle.world_laws.specs.RequestRefusals.Pools.{is_in_pool}
use Rattle.world_laws.specs.MemberCore.Mirror.{Mirror}
use Rattle.world_laws.specs.MemberCore.Mirror.TheVariants as mirror
use Rattle.world_laws.specs.MemberCore.Turn.{Turn}
use Rattle.world_laws.specs.MemberCore.Members.{MemberState, down_turn, up_turn, hears}
use Rattle.world_laws.specs.MemberCore.Requests.{mirror_request, request_event}
use Rattle.world_laws.specs.MemberCore.Steps.{Step, Setup, step, faulted_step, replica_after, request_at, request_step, booked_request, faulted_request, oldest_at, ready_turn_at}
use Rattle.world_laws.specs.ReadCore.Servings.{ServingState, read_at, read_event, next_call, piece_at}
use Rattle.world_laws.specs.RecoveryCore.RecoveryReply.{RecoveryReply}
use Rattle.world_laws.specs.RecoveryCore.RecoveryReply.TheVariants as reply
use Rattle.world_laws.specs.RecoveryCore.Members.{Served, no_recovery, step_event, recovery_event, reply_to, answer_of, served_as, serve_faulted}
use Rattle.world_laws.specs.World.Parts.{Message, request, packet, ack, response, read_status, recovery_answer, by_member, by_primary, Dialled, FullMember, Lower, idle, writes, serves, recovers, ended_below, Break, Place, Updated}
use Rattle.world_laws.specs.World.Worlds.{Past, World, Dial, Change, past_after}
use Rattle.world_laws.specs.World.Connections.{Next, message, the_end, is_alive, sent_on}
use Rattle.world_laws.specs.World.Nodes.{node_of, replica_at, block_of, broke_at, closing, unless_failing, above_of, below_of, sent_up, passed, member_change, failing_turn, turn_change, pending_at, takes_next, member_down, member_up, ready_change, mirror_node, is_asked, mirror_dial, dials_of, member_dials, setup_change, failing_write, write_request, read_change, failing_read, read_request, piece_as, serve_change, updated_by, recovery_change, failing_recovery, recovery_request, first_message, next_recovery, lower_down, lower_ready, mirror_up}
use Rattle.world_laws.specs.World.Safe.{Has}
use Rattle.world_laws.proofs.FactTables.{if-each, when-each, some-weaker}
use Rattle.world_laws.specs.Stamping.{Givens}
use Rattle.world_laws.specs.Carrying.{new_stamp, Sets, MemberSays, LowerSays, Holds}
use Rattle.world_laws.proofs.ByteFrame.{Each, each-nil, each-one, past-grows}
use Rattle.world_laws.proofs.ByteLeaves.{Facts, sent-if}
use Rattle.world_laws.proofs.ByteRows.{begin-stamp, update-held}
use Rattle.world_laws.specs.Joining.{joined_as, AtLeast, IsSetUp}
use Rattle.world_recoveries.specs.Recovering.{ReplicaTold, top_under, top_of, WasSent, Agrees, Recovering}
use Rattle.world_recoveries.proofs.Histories.{begins-get, has-later}
use Rattle.world_recoveries.proofs.Holding.{Moves, Books, as_before, books, event-moves}
use Rattle.world_recoveries.proofs.Frame.{NewInfo, IsUpdated, News}
use Rattle.world_recoveries.proofs.Leading.{still-news}
use Rattle.world_recoveries.proofs.Quiet.{Untold, OfSetup, QuietDial, Quiet, each-sent, upward-untold, each-of-setup, Brings, quiet-brings}
use Rattle.world_recoveries.proofs.Clients.{still-quiet}

-- MEMBERS

books-call : (r : FullReplica) (o : Option ReplicaEvent) → Books r (replica_after r o)
books-call r None = as_before refl
books-call r (Some e) = books e refl

books-broken : (r : FullReplica) → Books r (broken r)
books-broken r = books (replica_event.Other event.FileFault) refl

member-quiet : (w : World) (c : ℕ) (m : FullMember) (x : Next) (s : Step) (b : Option Break) → MemberSays w.past c m → Books (replica_at w c (block_of m.fields)) s.replica → Quiet w (member_change w c m x s b)
member-quiet w c m x s b h k = record {
  ups = each-sent (λ _ y. Untold y) (Some c) (sent_up m.fields s.effect.sends) (λ _. upward-untold m.fields s.effect.sends);
  downs = sent-if (λ d y. OfSetup w.past d y) m.mirror (passed s.effect.forwards x)
      (some-weaker (λ d. Sets w.past d (new_stamp m.fields)) (λ d. Each (OfSetup w.past d) (passed s.effect.forwards x)) m.mirror (λ d t. each-of-setup w.past d (new_stamp m.fields) (passed s.effect.forwards x) t) h.mirror);
  dials = each-nil (QuietDial w);
  primary = refl;
  books = k;
  updated = λ u x. absurd (none-some u x.there);
}

failing-turn-quiet : (w : World) (c : ℕ) (m : FullMember) (x : Next) (t : Turn) (o : Option ReplicaEvent) → MemberSays w.past c m → IfSome (failing_turn w c m x t o) (Quiet w)
failing-turn-quiet w c m x t None h = tt
failing-turn-quiet w c m x t (Some e) h = member-quiet w c m x (faulted_step m.state (replica_at w c (block_of m.fields)) t) _ h (books-broken (replica_at w c (block_of m.fields)))

turn-quiet : (w : World) (c : ℕ) (m : FullMember) (x : Next) (t : Turn) (fails : Bool) → MemberSays w.past c m → IfSome (turn_change w c m x t fails) (Quiet w)
turn-quiet w c m x t true h = failing-turn-quiet w c m x t t.call h
turn-quiet w c m x t false h = member-quiet w c m x (step m.state (replica_at w c (block_of m.fields)) t) _ h (books-call (replica_at w c (block_of m.fields)) t.call)

pub down-quiet : (w : World) (c : ℕ) (m : FullMember) (x : Next) (fails : Bool) → MemberSays w.past c m → IfSome (member_down w c m x fails) (Quiet w)
down-quiet w c m x fails h = when-each (Quiet w) (takes_next m.state (pending_at w c m) x) _ (λ _. turn-quiet w c m x (down_turn m.state (above_of x)) fails h)

up-quiet : (w : World) (c : ℕ) (m : FullMember) (x : Next) (fails : Bool) → MemberSays w.past c m → IfSome (member_up w c m x fails) (Quiet w)
up-quiet w c m x fails h = when-each (Quiet w) (hears m.state) _ (λ _. turn-quiet w c m x (up_turn m.state (oldest_at (replica_at w c (block_of m.fields))) (below_of x)) fails h)

ready-as : (w : World) (c : ℕ) (m : FullMember) (o : Option Turn) (fails : Bool) → MemberSays w.past c m → IfSome (ready_change w c m o fails) (Quiet w)
ready-as w c m None fails h = tt
ready-as w c m (Some t) fails h = turn-quiet w c m the_end t fails h

-- WRITE REQUESTS

mirror-quiet : (w : World) (c : ℕ) (o : Option WriteFields) (n : Option ℕ) → Each (QuietDial w) (mirror_dial w c o n)
mirror-quiet w c None n = each-nil (QuietDial w)
mirror-quiet w c (Some f) None = each-nil (QuietDial w)
mirror-quiet w c (Some f) (Some n) = each-one (QuietDial w) _ (record { life = refl; silent = λ q e. silent q e; unled = λ i place e. differ i place e })
  where
    silent : (q : RecoveryOp) → request (op.Write f) ≡ request (op.Recovery q) → ⊥
    silent q e = cc

    differ : (i place : ℕ) → by_member c ≡ by_primary i place → ⊥
    differ i place e = cc

dials-quiet : (w : World) (c : ℕ) (f : WriteFields) (m : Mirror) → Each (QuietDial w) (dials_of m w c f)
dials-quiet w c f mirror.Asked = mirror-quiet w c (mirror_request (ref_of (record { 0 = node_of w c })) f) (mirror_node f.targets)
dials-quiet w c f mirror.Nobody = each-nil (QuietDial w)
dials-quiet w c f mirror.Unreachable = each-nil (QuietDial w)
dials-quiet w c f mirror.Open = each-nil (QuietDial w)
dials-quiet w c f mirror.Ended = each-nil (QuietDial w)

member-dials-quiet : (w : World) (c : ℕ) (f : WriteFields) (o : Option MemberState) → Each (QuietDial w) (member_dials o w c f)
member-dials-quiet w c f None = each-nil (QuietDial w)
member-dials-quiet w c f (Some m) = dials-quiet w c f m.mirror

setup-quiet : (w : World) (c : ℕ) (f : WriteFields) (s : Setup) (b : Option Break) → Books (replica_at w c (block_of f)) s.replica → Quiet w (setup_change w c f s b)
setup-quiet w c f s b k = record {
  ups = each-sent (λ _ y. Untold y) (Some c) (sent_up f s.effect.sends) (λ _. upward-untold f s.effect.sends);
  downs = λ d. each-nil (OfSetup w.past d);
  dials = member-dials-quiet w c f s.member;
  primary = refl;
  books = k;
  updated = λ u x. absurd (none-some u x.there);
}

booked-books : (conn : ConnId) (f : WriteFields) (asked : Bool) (r s : FullReplica) (o : Option RequestRefusal) → Books r s → Books r (booked_request conn f asked s o).replica
booked-books conn f asked r s None k = k
booked-books conn f asked r s (Some x) k = k

request-books : (conn : ConnId) (f : WriteFields) (asked : Bool) (r : FullReplica) (e : Result Event RequestRefusal) → Books r (request_at conn f asked r e).replica
request-books conn f asked r (Err x) = as_before refl
request-books conn f asked r (Ok e) = booked-books conn f asked r (row r (replica_event.Other e)) _ (books (replica_event.Other e) refl)

failing-write-quiet : (w : World) (c : ℕ) (f : WriteFields) (e : Result Event RequestRefusal) → IfSome (failing_write w c f e) (Quiet w)
failing-write-quiet w c f (Err x) = tt
failing-write-quiet w c f (Ok e) = setup-quiet w c f (faulted_request (replica_at w c (block_of f))) _ (books-broken (replica_at w c (block_of f)))

pub write-quiet : (w : World) (c : ℕ) (f : WriteFields) (answered fails : Bool) → IfSome (write_request w c f answered fails) (Quiet w)
write-quiet w c f answered true = failing-write-quiet w c f (request_event (record { 0 = c }) f (rule_in (replica_at w c (block_of f)).known))
write-quiet w c f answered false =
    let r = replica_at w c (block_of f) in
    setup-quiet w c f (request_step (record { 0 = c }) f (is_asked w c f answered) r) (w.breaks (node_of w c) (block_of f))
    (request-books (record { 0 = c }) f (is_asked w c f answered) r (request_event (record { 0 = c }) f (rule_in r.known)))

-- READS

closing-quiet : (w : World) (c : ℕ) → Quiet w (closing w c)
closing-quiet w c = still-quiet w (closing w c) (λ _. refl) (λ _. refl) refl refl refl refl

pub unless-quiet : (w : World) (fails : Bool) (c : ℕ) → IfSome (unless_failing fails (closing w c)) (Quiet w)
unless-quiet w true c = tt
unless-quiet w false c = closing-quiet w c

-- a change of a lower end that tells this
telling : (w : World) (c : ℕ) (k : Change) (ms : List Message) → ((d : ℕ) → k.ups d ≡ sent_on (Some c) ms d) → ((d : ℕ) → k.downs d ≡ []) → k.dials ≡ [] → k.primary ≡ w.primaries k.primary_at → Each Untold ms → Books (w.replicas k.node k.block) k.replica → ((y : Updated) → Has k.updated y → IsUpdated w k w.past y) → Quiet w k
telling w c k ms u d s p e b sent = record {
  ups = λ x. subst (λ (ys : List Message). Each Untold ys) (sym (u x)) (each-sent (λ _ y. Untold y) (Some c) ms (λ _. e) x);
  downs = λ x. subst (λ (ys : List Message). Each (OfSetup w.past x) ys) (sym (d x)) (each-nil (OfSetup w.past x));
  dials = subst (λ (ds : List Dial). Each (QuietDial w) ds) (sym s) (each-nil (QuietDial w));
  primary = p;
  books = b;
  updated = sent;
}

read-change-quiet : (w : World) (c b : ℕ) (s : Result ServingState RequestRefusal) → Quiet w (read_change w c b s)
read-change-quiet w c b (Ok s) = telling w c (read_change w c b (Ok s)) _ (λ _. refl) (λ _. refl) refl refl (each-one Untold _ tt) (as_before refl) (λ y h. absurd (none-some y h.there))
read-change-quiet w c b (Err r) = telling w c (read_change w c b (Err r)) _ (λ _. refl) (λ _. refl) refl refl (each-one Untold _ tt) (as_before refl) (λ y h. absurd (none-some y h.there))

failing-read-quiet : (w : World) (c b : ℕ) (e : Result Event RequestRefusal) → IfSome (failing_read w c b e) (Quiet w)
failing-read-quiet w c b (Err r) = tt
failing-read-quiet w c b (Ok e) = telling w c _ _ (λ _. refl) (λ _. refl) refl refl (each-one Untold _ tt) (books-broken (replica_at w c b)) (λ y h. absurd (none-some y h.there))

pub read-quiet : (w : World) (c : ℕ) (r : ReadOp) (fails : Bool) → IfSome (read_request w c r fails) (Quiet w)
read-quiet w c r true = failing-read-quiet w c r.block.block.0 (read_event r)
read-quiet w c r false = read-change-quiet w c r.block.block.0 (read_at r (replica_at w c r.block.block.0))

piece-quiet : (w : World) (c b : ℕ) (s : ServingState) (o : Option Packet) → Quiet w (piece_as w c b s o)
piece-quiet w c b s None = closing-quiet w c
piece-quiet w c b s (Some p) = telling w c (piece_as w c b s (Some p)) _ (λ _. refl) (λ _. refl) refl refl (each-one Untold _ tt) (as_before refl) (λ y h. absurd (none-some y h.there))

serve-quiet : (w : World) (c b : ℕ) (s : ServingState) (o : Option Event) (fails : Bool) → IfSome (serve_change w c b s o fails) (Quiet w)
serve-quiet w c b s None fails = tt
serve-quiet w c b s (Some e) true = telling w c _ [] (λ _. refl) (λ _. refl) refl refl (each-nil Untold) (books-broken (replica_at w c b)) (λ y h. absurd (none-some y h.there))
serve-quiet w c b s (Some e) false = piece-quiet w c b (piece_at s (replica_at w c b)).serving (piece_at s (replica_at w c b)).packet

-- RECOVERIES

-- what stands next from above was sent
abbrev pub SentDown : Past → ℕ → Next → Type 0
SentDown h c (message m) = (j : ℕ) × (slice_get (h.downs c) j ≡ Some m)
SentDown h c the_end = Unit {0}

-- what a step of a recovery is: an INIT or an UPDATE of the request's, or a refusal, which tells nothing
abbrev IsStep : RecoveryOp → Event → Type 0
IsStep q (event.Init named id) = (named ≡ q.block.stamp) × (id ≡ q.recovery)
IsStep q (event.Update id n) = (q.kind ≡ kind.Update) × (q.recovery ≡ id)
IsStep q _ = ⊥

abbrev StepSays : RecoveryOp → Result Event RecoveryReply → Type 0
StepSays q (Ok e) = IsStep q e
StepSays q (Err said) = ((answer_of said).info ≡ None) × ((p : Place) → updated_by said p q ≡ [])

init-says : (q : RecoveryOp) (b : Bool) → StepSays q (if b then Err no_recovery else Ok (event.Init q.block.stamp q.recovery))
unfolding answer_of
init-says q true = (refl, λ p. refl)
init-says q false = (refl, refl)

event-says : (k : RecoveryKind) (q : RecoveryOp) → q.kind ≡ k → StepSays q (step_event k q)
unfolding answer_of
event-says kind.Begin q e = (refl, λ p. refl)
event-says kind.Init q e = init-says q (q.recovery.0 == 0)
event-says kind.Update q e = (e, refl)

pool-says : (q : RecoveryOp) (b : Bool) (r : Result Event RecoveryReply) → StepSays q r → StepSays q (if b then r else Err (reply.Refused request_refusal.Pool))
unfolding answer_of
pool-says q true r h = h
pool-says q false r h = (refl, λ p. refl)

step-says : (q : RecoveryOp) → StepSays q (recovery_event q)
unfolding recovery_event
step-says q = pool-says q (is_in_pool q.block) (step_event q.kind q) (event-says q.kind q refl)

-- an INIT that was taken
record InitTaken (c : ReplicaRecord) (named id : Stamp) (t : Taken) : Type 0 where
  pub info : ReplicaInfo
  pub is : c.info ≡ Some info
  pub whole : c.is_broken ≡ false
  pub held : t.replica.info ≡ Some (record info { recovery = Some id })
  pub told : t.answer ≡ answer.Info info.original info.stamp info.written
  pub least : named.0 ≤ info.stamp.0
  pub below : info.stamp.0 < id.0
  pub later : top_of info < id.0

-- an INIT that was taken is of a later recovery than any that held the replica
begins-later : (o : Option Stamp) (s id : Stamp) → s.0 < id.0 → is_free_for o id ≡ true → top_under o s < id.0
begins-later None s id lt e = lt
begins-later (Some held) s id lt e = grind (arith, nat_tests, e)

begin-free : (i k : ReplicaInfo) (named id : Stamp) → begin_recovery i named id ≡ Ok k → is_free_for i.recovery id ≡ true
unfolding begin_recovery
begin-free i k named id e = grind (arith, nat_tests)

init-taken : (c : ReplicaRecord) (named id : Stamp) → IfOk (transition c (event.Init named id)) (InitTaken c named id)
unfolding transition
init-taken c named id = if_step (InitTaken c named id) (present c) _ (λ h e. if_step (InitTaken c named id) (begin_recovery h named id) _ (λ k f.
    let p = present_is c h e in
    let s = begin-stamp h k named id f in
    record { info = h; is = p.1; whole = p.0; held = ap (λ (x : ReplicaInfo). Some x) (begin_recovery_is h k named id f); told = refl; least = s.0; below = s.1; later = begins-later h.recovery h.stamp id s.1 (begin-free h k named id f) }))

-- an UPDATE that was taken tells nothing; its recovery held the replica, which is under its id then
record UpdateTaken (c : ReplicaRecord) (id : Stamp) (t : Taken) : Type 0 where
  pub done : t.answer ≡ answer.Done
  pub was : ReplicaInfo
  pub is : c.info ≡ Some was
  pub held : top_of was ≡ id.0
  pub now : AtLeast t.replica.info id.0

update-taken : (c : ReplicaRecord) (id : Stamp) (n : ℕ) → IfOk (transition c (event.Update id n)) (UpdateTaken c id)
unfolding transition
update-taken c id n = if_step (UpdateTaken c id) (present c) _ (λ h e. if_step (UpdateTaken c id) (end_recovery h h.recovery id n) _ (λ k f.
    record {
      done = refl;
      was = h;
      is = (present_is c h e).1;
      held = ap (λ (o : Option Stamp). top_under o h.stamp) (update-held h k h.recovery id n f);
      now = record { info = k; is = refl; least = omega (arith, ap (λ (z : ReplicaInfo). z.stamp.0) (end_recovery_is h k h.recovery id n f).0) };
    }))

abbrev after : FullReplica → Outcome → FullReplica
after r o = record { known = record_after r.known o; bytes = take (written_in (record_after r.known o)) (r.bytes ++ []) }

abbrev Does : World → ℕ → RecoveryOp → FullReplica → Answer → Change
Does w c q r a = recovery_change w c q (record { replica = r; reply = reply_to a }) (w.breaks (node_of w c) q.block.block.0)

-- an answer that tells nothing
untold-change : (w : World) (c : ℕ) (q : RecoveryOp) (s : Served) (b : Option Break) → (answer_of s.reply).info ≡ None → Books (replica_at w c q.block.block.0) s.replica → ((u : Updated) → Has (updated_by s.reply (w.dialled c).to q) u → IsUpdated w (recovery_change w c q s b) w.past u) → Quiet w (recovery_change w c q s b)
untold-change w c q s b e k sent = telling w c (recovery_change w c q s b) (recovery_answer (answer_of s.reply) ∷ []) (λ _. refl) (λ _. refl) refl refl (each-one Untold _ e) k sent

refused-untold : (x : RequestRefusal) → (answer_of (reply.Refused x)).info ≡ None
unfolding answer_of
refused-untold x = refl

updated-untold : (answer_of reply.Updated).info ≡ None
unfolding answer_of
updated-untold = refl

informed-told : (at : ReplicaState) (t : Stamp) (n : ℕ) → (answer_of (reply.Informed at t n)).info ≡ Some (at, t, n)
unfolding answer_of
informed-told at t n = refl

-- the one message that is sent
one-sent : (c d j : ℕ) (m x : Message) → slice_get (sent_on (Some c) (m ∷ []) d) j ≡ Some x → (d ≡ c) × (m ≡ x)
one-sent c d j m x =
    if-each (λ (ms : List Message). slice_get ms j ≡ Some x → (d ≡ c) × (m ≡ x)) (d == c) (m ∷ []) [] (λ t e. (eqb-true d c t, first j e)) (λ _ e. absurd (none-some x e))
  where
    first : (i : ℕ) → slice_get (m ∷ []) i ≡ Some x → m ≡ x
    first zero e = same_Some m x e
    first (suc i) e = absurd (none-some x e)

-- what is known where a lower end takes something
pub record Taking (g : Givens) (w : World) (c : ℕ) : Type 0 where
  pub facts : Facts g w
  pub recovering : Recovering g w
  pub writes : (n b : ℕ) → IsSetUp w.joined (w.lives n) (w.running n) n (w.replicas n b)
  pub known : c < w.next_conn
  pub runs : w.running (node_of w c) ≡ true
  pub life : w.lives (node_of w c) ≡ (w.dialled c).to.life

replica-given : (g : Givens) (w : World) (n b : ℕ) (i : ReplicaInfo) → Facts g w → (w.replicas n b).known.info ≡ Some i → (s : ℕ) × (g b i.stamp.0 ≡ Some s)
replica-given g w n b i f e =
    let h : Holds g w.past b (w.replicas n b).bytes i = subst (λ (o : Option ReplicaInfo). IfSome o (Holds g w.past b (w.replicas n b).bytes)) e (f.carried.replicas n b).info in
    (h.under.session, h.under.given)

-- an INIT that was taken tells what the replica is
init-news : (g : Givens) (w : World) (c : ℕ) (q : RecoveryOp) (r : FullReplica) (named id : Stamp) (t : Taken) → Taking g w c → Agrees w.past c q → named ≡ q.block.stamp → id ≡ q.recovery
    → (x : InitTaken (replica_at w c q.block.block.0).known named id t) → r.known ≡ t.replica → Moves (replica_at w c q.block.block.0).known.info r.known.info
    → News g w (Does w c q r (answer.Info x.info.original x.info.stamp x.info.written))
init-news g w c q r named id t h a ne ie x same m = still-news g w k h.recovering refl (λ _. refl) refl m infos (λ u z. absurd (none-some u z.there))
  where
    k : Change
    k = Does w c q r (answer.Info x.info.original x.info.stamp x.info.written)

    p : Past
    p = past_after w k

    i : ReplicaTold
    i = (x.info.original, x.info.stamp, x.info.written)

    b : ℕ
    b = q.block.block.0

    given : (s : ℕ) × (g b x.info.stamp.0 ≡ Some s)
    given = replica-given g w (node_of w c) b x.info h.facts x.is

    joins : x.info.original ≡ state.Rbw → Has w.joined (joined_as x.info.stamp.0 (w.dialled c).to.node (w.dialled c).to.life)
    joins e = subst (λ (l : ℕ). Has w.joined (joined_as x.info.stamp.0 (w.dialled c).to.node l)) h.life
        (subst (λ (o : Option ReplicaInfo). IfSome o (λ y. y.original ≡ state.Rbw → Has w.joined (joined_as y.stamp.0 (node_of w c) (w.lives (node_of w c))))) x.is
        ((h.writes (node_of w c) b).joins h.runs x.whole) e)

    new : NewInfo g w k c (x.info.original, x.info.stamp, x.info.written)
    new = record {
      known = h.known;
      node = refl;
      asked = a.asked;
      first = begins-get (w.downs c) (p.downs c) 0 (request (op.Recovery a.asked)) ((past-grows w k).downs c) a.first;
      block = ap (λ (y : BlockId). y.0) a.block;
      fits = record {
        known = omega (arith, h.known, (past-grows w k).conns);
        named_below = omega (arith, x.least, ap (λ (s : Stamp). s.0) ne, ap (λ (s : Stamp). s.0) a.stamp);
        below = omega (arith, x.below, ap (λ (s : Stamp). s.0) ie, ap (λ (s : Stamp). s.0) a.recovery);
        session = given.0;
        given = given.1;
        joins = λ e. subst (λ (y : Dialled). Has p.joined (joined_as x.info.stamp.0 y.to.node y.to.life)) (sym ((past-grows w k).dialled c h.known))
            (has-later w.joined p.joined _ (past-grows w k).joined (joins e));
      };
      still = record {
        info = record x.info { recovery = Some id };
        is = ap (λ (y : ReplicaRecord). y.info) same ∙ x.held;
        above = omega (arith, ap (λ (s : Stamp). s.0) ie, ap (λ (s : Stamp). s.0) a.recovery);
        same = λ _. (refl, refl, refl);
      };
      none = refl;
      now = record {
        runs = h.runs;
        life = sym h.life;
        replica = record { info = x.info; is = x.is; sound = x.whole; told = refl; below = omega (arith, x.later, ap (λ (s : Stamp). s.0) ie, ap (λ (s : Stamp). s.0) a.recovery) };
      };
    }

    infos : (v j : ℕ) (y : RecoveryAnswer) (z : ReplicaTold) → slice_get (k.ups v) j ≡ Some (recovery_answer y) → y.info ≡ Some z → NewInfo g w k v z
    infos v j y z e f =
        let s = one-sent c v j (recovery_answer (answer_of (reply.Informed x.info.original x.info.stamp x.info.written))) (recovery_answer y) e in
        let told : Some (x.info.original, x.info.stamp, x.info.written) ≡ Some z = sym (informed-told x.info.original x.info.stamp x.info.written) ∙ ap (λ (u : RecoveryAnswer). u.info) (same-answer _ y s.1) ∙ f in
        subst (λ (u : ℕ). NewInfo g w k u z) (sym s.0) (subst (λ (u : ReplicaTold). NewInfo g w k c u) (same_Some _ z told) new)
      where
        same-answer : (u v : RecoveryAnswer) → recovery_answer u ≡ recovery_answer v → u ≡ v
        same-answer u v e = cc

one-brings : (g : Givens) (w : World) (k : Change) (c : ℕ) → Taking g w c → Quiet w k → Brings g w k
one-brings g w k c h q = quiet-brings g w (Some k) h.facts h.recovering q

init-brings : (g : Givens) (w : World) (c : ℕ) (q : RecoveryOp) (named id : Stamp) (o : Outcome) → Taking g w c → Agrees w.past c q → named ≡ q.block.stamp → id ≡ q.recovery
    → IfOk o (InitTaken (replica_at w c q.block.block.0).known named id) → Moves (replica_at w c q.block.block.0).known.info (record_after (replica_at w c q.block.block.0).known o).info
    → Books (replica_at w c q.block.block.0) (after (replica_at w c q.block.block.0) o) → Brings g w (Does w c q (after (replica_at w c q.block.block.0) o) (core.answer_of (core.reply o)))
init-brings g w c q named id (Err x) h a ne ie n m k =
    let r = after (replica_at w c q.block.block.0) (Err x) in
    one-brings g w (Does w c q r (answer.Refused x)) c h (untold-change w c q (record { replica = r; reply = reply_to (answer.Refused x) }) (w.breaks (node_of w c) q.block.block.0) (refused-untold (request_refusal.Core x)) k (λ u z. absurd (none-some u z.there)))
init-brings g w c q named id (Ok t) h a ne ie n m k = record {
  news = λ _. subst (λ (y : Answer). News g w (Does w c q (after (replica_at w c q.block.block.0) (Ok t)) y)) (sym n.told) (init-news g w c q (after (replica_at w c q.block.block.0) (Ok t)) named id t h a ne ie n refl m);
}

-- what an UPDATE that is done leaves in the records
abbrev update_of : Place → RecoveryOp → Updated
update_of p q = record { node = p.node; life = p.life; block = q.block.block.0; recovery = q.recovery.0; length = q.new_length }

only-update : {w : World} {k : Change} {h : Past} (p : Place) (q : RecoveryOp) (u : Updated) → IsUpdated w k h (update_of p q) → (i : ℕ) → slice_get (update_of p q ∷ []) i ≡ Some u → IsUpdated w k h u
only-update {w} {k} {h} p q u s zero e = subst (λ (x : Updated). IsUpdated w k h x) (same_Some (update_of p q) u e) s
only-update p q u s (suc i) e = absurd (none-some u e)

-- an UPDATE that was sent on the connection
update-sent : (g : Givens) (w : World) (c : ℕ) (q : RecoveryOp) → Taking g w c → q.kind ≡ kind.Update → SentDown w.past c (message (request (op.Recovery q))) → WasSent w.past (update_of (w.dialled c).to q)
update-sent g w c q h e s = record { conn = c; known = h.known; to = refl; sent = record { asked = q; place = s.0; there = s.1; is_update = e; block = refl; recovery = refl; length = refl } }

update-brings : (g : Givens) (w : World) (c : ℕ) (q : RecoveryOp) (o : Outcome) → Taking g w c → WasSent w.past (update_of (w.dialled c).to q) → IfOk o (UpdateTaken (replica_at w c q.block.block.0).known q.recovery)
    → Books (replica_at w c q.block.block.0) (after (replica_at w c q.block.block.0) o) → Brings g w (Does w c q (after (replica_at w c q.block.block.0) o) (core.answer_of (core.reply o)))
update-brings g w c q (Err x) h sent n k =
    let r = after (replica_at w c q.block.block.0) (Err x) in
    one-brings g w (Does w c q r (answer.Refused x)) c h (untold-change w c q (record { replica = r; reply = reply_to (answer.Refused x) }) (w.breaks (node_of w c) q.block.block.0) (refused-untold (request_refusal.Core x)) k (λ u z. absurd (none-some u z.there)))
update-brings g w c q (Ok t) h sent n k =
    let r = after (replica_at w c q.block.block.0) (Ok t) in
    let z : IsUpdated w (Does w c q r answer.Done) w.past (update_of (w.dialled c).to q) = record { sent = sent; node = refl; block = refl; life = sym h.life; was = n.was; is = n.is; held = n.held; now = n.now } in
    subst (λ (y : Answer). Brings g w (Does w c q r y)) (sym n.done)
    (one-brings g w (Does w c q r answer.Done) c h (untold-change w c q (record { replica = r; reply = reply_to answer.Done }) (w.breaks (node_of w c) q.block.block.0) updated-untold k (λ u y. only-update (w.dialled c).to q u z y.place y.there)))

served-brings : (g : Givens) (w : World) (c : ℕ) (q : RecoveryOp) (e : Result Event RecoveryReply) → Taking g w c → Agrees w.past c q → SentDown w.past c (message (request (op.Recovery q))) → StepSays q e
    → Brings g w (recovery_change w c q (served_as (replica_at w c q.block.block.0) e) (w.breaks (node_of w c) q.block.block.0))
served-brings g w c q (Err said) h a d s =
    let r = replica_at w c q.block.block.0 in
    one-brings g w (recovery_change w c q (served_as r (Err said)) (w.breaks (node_of w c) q.block.block.0)) c h
    (untold-change w c q (served_as r (Err said)) (w.breaks (node_of w c) q.block.block.0) s.0 (as_before refl) (λ u z. absurd (none-some u (sym (ap (λ (us : List Updated). slice_get us z.place) (s.1 (w.dialled c).to)) ∙ z.there))))
served-brings g w c q (Ok (event.Init named id)) h a d s =
    let r = replica_at w c q.block.block.0 in
    init-brings g w c q named id (transition r.known (event.Init named id)) h a s.0 s.1 (init-taken r.known named id)
    (event-moves r.known (event.Init named id) (h.facts.full (node_of w c) q.block.block.0).sound) (books (replica_event.Other (event.Init named id)) refl)
served-brings g w c q (Ok (event.Update id n)) h a d s =
    let r = replica_at w c q.block.block.0 in
    update-brings g w c q (transition r.known (event.Update id n)) h (update-sent g w c q h s.0 d) (subst (λ (t : Stamp). IfOk (transition r.known (event.Update id n)) (UpdateTaken r.known t)) (sym s.1) (update-taken r.known id n)) (books (replica_event.Other (event.Update id n)) refl)
served-brings g w c q (Ok (event.Create conn t r)) h a d s = absurd s
served-brings g w c q (Ok (event.Temporary conn t r)) h a d s = absurd s
served-brings g w c q (Ok (event.Append conn named new n)) h a d s = absurd s
served-brings g w c q (Ok (event.AppendRecovery conn named new n)) h a d s = absurd s
served-brings g w c q (Ok (event.StreamRecovery conn named new low high)) h a d s = absurd s
served-brings g w c q (Ok (event.CloseRecovery named new n)) h a d s = absurd s
served-brings g w c q (Ok (event.Packet conn seqno offset n sums last sync bad)) h a d s = absurd s
served-brings g w c q (Ok (event.Ack conn seqno good)) h a d s = absurd s
served-brings g w c q (Ok (event.Ended conn)) h a d s = absurd s
served-brings g w c q (Ok (event.Read named offset n)) h a d s = absurd s
served-brings g w c q (Ok (event.Give named offset n)) h a d s = absurd s
served-brings g w c q (Ok event.FileFault) h a d s = absurd s

failing-recovery-brings : (g : Givens) (w : World) (c : ℕ) (q : RecoveryOp) (e : Result Event RecoveryReply) → Taking g w c → IfSome (failing_recovery w c q e) (Brings g w)
failing-recovery-brings g w c q (Err said) h = tt
failing-recovery-brings g w c q (Ok e) h =
    let r = replica_at w c q.block.block.0 in
    let b = broke_at w c q.block.block.0 (replica_event.Other e) in
    one-brings g w (recovery_change w c q (serve_faulted r) b) c h (untold-change w c q (serve_faulted r) b (refused-untold request_refusal.File) (books-broken r) (λ u z. absurd (none-some u z.there)))

recovery-brings : (g : Givens) (w : World) (c : ℕ) (q : RecoveryOp) (fails : Bool) → Taking g w c → Agrees w.past c q → SentDown w.past c (message (request (op.Recovery q))) → IfSome (recovery_request w c q fails) (Brings g w)
recovery-brings g w c q true h a d = failing-recovery-brings g w c q (recovery_event q) h
recovery-brings g w c q false h a d = served-brings g w c q (recovery_event q) h a d (step-says q)

-- THE LOWER END

quiet-as : (g : Givens) (w : World) (c : ℕ) (o : Option Change) → Taking g w c → IfSome o (Quiet w) → IfSome o (Brings g w)
quiet-as g w c o h q = quiet-brings g w o h.facts h.recovering q

unless-brings : (g : Givens) (w : World) (fails : Bool) (c : ℕ) → Taking g w c → IfSome (unless_failing fails (closing w c)) (Brings g w)
unless-brings g w fails c h = quiet-as g w c (unless_failing fails (closing w c)) h (unless-quiet w fails c)

request-brings : (g : Givens) (w : World) (c : ℕ) (o : Op) (answered fails : Bool) → Taking g w c → SentDown w.past c (message (request o)) → IfSome (first_message w c (request o) answered fails) (Brings g w)
request-brings g w c (op.Write f) answered fails h s = quiet-as g w c (write_request w c f answered fails) h (write-quiet w c f answered fails)
request-brings g w c (op.Read r) answered fails h s = quiet-as g w c (read_request w c r fails) h (read-quiet w c r fails)
request-brings g w c (op.Recovery q) answered fails h s = recovery-brings g w c q fails h (h.recovering.asks c s.0 q s.1) s
request-brings g w c (op.Transfer r) answered fails h s = unless-brings g w fails c h
request-brings g w c (op.Checksum r) answered fails h s = unless-brings g w fails c h

first-brings : (g : Givens) (w : World) (c : ℕ) (m : Message) (answered fails : Bool) → Taking g w c → SentDown w.past c (message m) → IfSome (first_message w c m answered fails) (Brings g w)
first-brings g w c (request o) answered fails h s = request-brings g w c o answered fails h s
first-brings g w c (packet p) answered fails h s = unless-brings g w fails c h
first-brings g w c (ack a) answered fails h s = unless-brings g w fails c h
first-brings g w c (response r) answered fails h s = unless-brings g w fails c h
first-brings g w c (read_status t) answered fails h s = unless-brings g w fails c h
first-brings g w c (recovery_answer a) answered fails h s = unless-brings g w fails c h

next-op-brings : (g : Givens) (w : World) (c : ℕ) (o : Op) (fails : Bool) → Taking g w c → SentDown w.past c (message (request o)) → IfSome (next_recovery w c (message (request o)) fails) (Brings g w)
next-op-brings g w c (op.Write f) fails h s = unless-brings g w fails c h
next-op-brings g w c (op.Read r) fails h s = unless-brings g w fails c h
next-op-brings g w c (op.Recovery q) fails h s = recovery-brings g w c q fails h (h.recovering.asks c s.0 q s.1) s
next-op-brings g w c (op.Transfer r) fails h s = unless-brings g w fails c h
next-op-brings g w c (op.Checksum r) fails h s = unless-brings g w fails c h

next-brings : (g : Givens) (w : World) (c : ℕ) (x : Next) (fails : Bool) → Taking g w c → SentDown w.past c x → IfSome (next_recovery w c x fails) (Brings g w)
next-brings g w c (message (request o)) fails h s = next-op-brings g w c o fails h s
next-brings g w c (message (packet p)) fails h s = unless-brings g w fails c h
next-brings g w c (message (ack a)) fails h s = unless-brings g w fails c h
next-brings g w c (message (response r)) fails h s = unless-brings g w fails c h
next-brings g w c (message (read_status t)) fails h s = unless-brings g w fails c h
next-brings g w c (message (recovery_answer a)) fails h s = unless-brings g w fails c h
next-brings g w c the_end fails h s = unless-brings g w fails c h

pub lower-down-brings : (l : Lower) (g : Givens) (w : World) (c : ℕ) (x : Next) (answered fails : Bool) → Taking g w c → LowerSays w.past c l → SentDown w.past c x → IfSome (lower_down l w c x answered fails) (Brings g w)
lower-down-brings idle g w c (message m) answered fails h k s = first-brings g w c m answered fails h s
lower-down-brings idle g w c the_end answered fails h k s = unless-brings g w fails c h
lower-down-brings (writes m) g w c x answered fails h k s = quiet-as g w c (member_down w c m x fails) h (down-quiet w c m x fails k)
lower-down-brings (serves b t) g w c x answered fails h k s = unless-brings g w fails c h
lower-down-brings recovers g w c x answered fails h k s = next-brings g w c x fails h s
lower-down-brings ended_below g w c x answered fails h k s = tt

pub lower-ready-quiet : (l : Lower) (w : World) (c : ℕ) (fails : Bool) → LowerSays w.past c l → IfSome (lower_ready l w c fails) (Quiet w)
lower-ready-quiet idle w c fails k = tt
lower-ready-quiet (writes m) w c fails k = ready-as w c m (ready_turn_at m.state (replica_at w c (block_of m.fields))) fails k
lower-ready-quiet (serves b t) w c fails k = serve-quiet w c b t (next_call t) fails
lower-ready-quiet recovers w c fails k = tt
lower-ready-quiet ended_below w c fails k = tt

pub mirror-up-quiet : (l : Lower) (w : World) (d : ℕ) (x : Next) (fails : Bool) → LowerSays w.past d l → IfSome (mirror_up l w d x fails) (Quiet w)
mirror-up-quiet idle w d x fails k = tt
mirror-up-quiet (writes m) w d x fails k = when-each (Quiet w) (is_alive w (w.dialled d).to) _ (λ _. up-quiet w d m x fails k)
mirror-up-quiet (serves b t) w d x fails k = tt
mirror-up-quiet recovers w d x fails k = tt
mirror-up-quiet ended_below w d x fails k = tt
