-- What the other lower ends make of what answers and acks say: reads, and a member's part of a block recovery.
use Rattle.std.proofs.Common.{◌≡◌, ℕ, ◌<◌, ◌≤◌, ◌⊎◌, inl, inr, Bool, true, false, List, [], ◌++◌, length, take, take_all, append-nil, slice_get, Option, Some, None, IfSome, Result, Ok, Err, IfOk, refl, sym, ◌∙◌, ap, subst, arith}
use Rattle.std.specs.Prelude.{◌==◌, if◌then◌else◌}
use Rattle.std.proofs.lemmas.Bool.{cases_lt}
use Rattle.std.proofs.lemmas.List.{take-take}
use Rattle.std.proofs.lemmas.Option.{none-some, same_Some}
use Rattle.hd_base.specs.Results.{◌>>=◌}
use Rattle.hd_base.specs.declared.numbers.Stamp.{Stamp}
use Rattle.op_headers.specs.declared.ops.Op.{Op}
use Rattle.op_headers.specs.declared.ops.Op.TheVariants as op
use Rattle.op_headers.specs.declared.ops.ReadOp.{ReadOp}
use Rattle.op_headers.specs.declared.ops.RecoveryKind.{RecoveryKind}
use Rattle.op_headers.specs.declared.ops.RecoveryKind.TheVariants as recovery_kind
use Rattle.op_headers.specs.declared.ops.RecoveryOp.{RecoveryOp}
use Rattle.packet_codec.specs.declared.packets.Packet.{Packet}
use Rattle.replica_core.specs.declared.events.Answer.TheVariants as core_answer
use Rattle.replica_core.specs.declared.events.Event.{Event}
use Rattle.replica_core.specs.declared.events.Event.TheVariants as event
use Rattle.replica_core.specs.declared.info.ReplicaInfo.{ReplicaInfo}
use Rattle.replica_core.specs.declared.records.ReplicaRecord.{ReplicaRecord}
use Rattle.replica_core.specs.declared.refusals.Refusal.{Refusal}
use Rattle.hd_base.specs.declared.states.ReplicaState.TheVariants as state
use Rattle.replica_core.specs.Info.{settled_at, end_recovery}
use Rattle.replica_core.specs.Transitions.{Outcome, Taken, transition, record_after, state_after, present, with_writer, done, set_writer}
use Rattle.replica_core.specs.Transitions as core
use Rattle.replica_core.specs.Views.{written_in, written_at}
use Rattle.replica_core.proofs.InfoLemmas.{present_is, end_recovery_is}
use Rattle.replica_model.specs.declared.events.ReplicaEvent.{ReplicaEvent}
use Rattle.replica_model.specs.declared.events.ReplicaEvent.TheVariants as replica_event
use Rattle.replica_model.specs.Rows.{FullReplica, IsFull, broken}
use Rattle.request_refusals.specs.declared.refusals.RequestRefusal.{RequestRefusal}
use Rattle.request_refusals.specs.Pools.{is_in_pool}
use Rattle.world_recoveries.specs.ReadCore.Servings.{ServingState, read_at, read_event, accepting, refusing, next_call, piece_at}
use Rattle.world_recoveries.specs.RecoveryCore.RecoveryReply.{RecoveryReply}
use Rattle.world_recoveries.specs.RecoveryCore.Members.{Served, no_recovery, step_event, recovery_event, reply_to, answer_of, served_as, serve_faulted}
use Rattle.world_recoveries.specs.World.Parts.{Message, request, packet, ack, response, read_status, recovery_answer, FullMember, Lower, idle, writes, serves, recovers, ended_below, Break, Updated}
use Rattle.world_recoveries.specs.World.Worlds.{World, Change, apply}
use Rattle.world_recoveries.specs.World.Connections.{Next, message, the_end, is_alive}
use Rattle.world_recoveries.specs.World.Nodes.{node_of, replica_at, broke_at, closing, unless_failing, breaking, read_change, failing_read, read_request, piece_as, serve_change, updated_by, recovery_change, failing_recovery, recovery_request, first_message, next_recovery, lower_down, lower_ready, mirror_up}
use Rattle.world_recoveries.specs.World.Safe.{Has}
use Rattle.world_recoveries.proofs.WorldLaws.FactTables.{if-each, when-each}
use Rattle.world_recoveries.specs.WorldLaws.Stamping.{Givens}
use Rattle.world_recoveries.specs.WorldLaws.Carrying.{LowerSays, DownSays}
use Rattle.world_recoveries.proofs.WorldLaws.ByteFrame.{Each, each-nil, each-one}
use Rattle.world_recoveries.proofs.WorldLaws.ByteLeaves.{sent-each}
use Rattle.world_recoveries.proofs.WorldLaws.ByteRows.{update-held}
use Rattle.world_recoveries.specs.WorldLaws.Joining.{IsPlain}
use Rattle.world_recoveries.proofs.WorldLaws.SetupRising.{event-broken}
use Rattle.world_acks.specs.Acking.{Shown, AsksToRead, Ends, UpTells, DownTells, Mirrors, LowerTells, Pends}
use Rattle.world_acks.proofs.Passing.{StampSteps, gets_update, stamps-keep}
use Rattle.world_acks.proofs.Seats.{has-one, IsCut, Steps, steps-same, Lasting, reads-on}
use Rattle.world_acks.proofs.Turning.{Known, Acts, HeardTells, from-mirror}
use Rattle.world_acks.proofs.Lowers.{Leaf, TakenTells, still-numbers, aside-begun, row-steps, row-pends, same-pends, down-leaf, up-leaf, ready-leaf}
use Rattle.world_acks.proofs.Requests.{still-requests}
use Rattle.world_acks.proofs.Setups.{ended-busy, write-leaf}

-- CHANGES BESIDE

-- a change without dials and setups, that sends nothing down, with a lower end that says nothing
pub record IsBeside (w : World) (k : Change) : Type 0 where
  pub office : k.office ≡ w.office
  pub stamped : k.stamped ≡ None
  pub writer : k.writer ≡ w.writers k.writer_at
  pub dials : k.dials ≡ []
  pub downs : (c : ℕ) → k.downs c ≡ []
  pub joined : k.joined ≡ []
  pub busy : k.lower ≡ idle → ⊥
  pub lower : (g : Givens) (v : World) → LowerTells g v k.lower_at k.lower

pub beside-leaf : (g : Givens) (t : Ends) (w : World) (k : Change) → Known g t w → IsBeside w k → Steps w k → IfSome k.replica.known.info (Pends g t k.block k.replica.known)
    → ((v : World) → Lasting g g t t w v → (c : ℕ) → Each (UpTells g t v c) (k.ups c)) → Leaf g t w k
beside-leaf g t w k h a steps pends ups = record {
  steps = steps;
  requests = still-requests w k h.requests a.writer a.dials (λ e. absurd (a.busy e));
  news = λ on facts recovers. record {
    ups = ups (apply w k) on;
    downs = λ c. subst (λ (ms : List Message). Each (DownTells g t (apply w k) c) ms) (sym (a.downs c)) (each-nil (DownTells g t (apply w k) c));
    dials = λ i d e. absurd (none-some d (sym (ap (λ xs. slice_get xs i) a.dials) ∙ e));
    uppers = λ i d e. absurd (none-some d (sym (ap (λ xs. slice_get xs i) a.dials) ∙ e));
    lower = a.lower g (apply w k);
    replica = pends;
    joined = λ p n l j. absurd (none-some _ (sym (ap (λ xs. slice_get xs j.place) a.joined) ∙ j.there));
    writers = still-numbers g t w k h.acked a.stamped a.writer;
    begun = aside-begun g t w k h.acked a.office;
  };
}

serves-busy : (b : ℕ) (s : ServingState) → serves b s ≡ idle → ⊥
serves-busy b s e = cc

recovers-busy : recovers ≡ idle → ⊥
recovers-busy e = cc

closing-leaf : (g : Givens) (t : Ends) (w : World) (c : ℕ) → Known g t w → Leaf g t w (closing w c)
closing-leaf g t w c h =
    beside-leaf g t w (closing w c) h (record { office = refl; stamped = refl; writer = refl; dials = refl; downs = λ _. refl; joined = refl; busy = λ e. absurd (ended-busy e); lower = λ _ _. tt }) (steps-same w (closing w c) refl) (same-pends g t w (closing w c) h refl)
    (λ v _ d. each-nil (UpTells g t v d))

unless-leaf : (g : Givens) (t : Ends) (w : World) (fails : Bool) (c : ℕ) → Known g t w → IfSome (unless_failing fails (closing w c)) (Leaf g t w)
unless-leaf g t w true c h = tt
unless-leaf g t w false c h = closing-leaf g t w c h

-- READS

read-change-leaf : (g : Givens) (t : Ends) (w : World) (c b : ℕ) (s : Result ServingState RequestRefusal) → Known g t w → AsksToRead w.past c → Leaf g t w (read_change w c b s)
read-change-leaf g t w c b (Ok s) h a =
    let k = read_change w c b (Ok s) in
    beside-leaf g t w k h (record { office = refl; stamped = refl; writer = refl; dials = refl; downs = λ _. refl; joined = refl; busy = λ e. absurd (serves-busy b s e); lower = λ _ _. tt }) (steps-same w k refl) (same-pends g t w k h refl)
    (λ v on. sent-each (UpTells g t v) c _ (each-one (UpTells g t v c) (response (accepting s)) (λ _. inr (reads-on g g t t w v c on.on a))))
read-change-leaf g t w c b (Err r) h a =
    let k = read_change w c b (Err r) in
    beside-leaf g t w k h (record { office = refl; stamped = refl; writer = refl; dials = refl; downs = λ _. refl; joined = refl; busy = λ e. absurd (ended-busy e); lower = λ _ _. tt }) (steps-same w k refl) (same-pends g t w k h refl)
    (λ v on. sent-each (UpTells g t v) c _ (each-one (UpTells g t v c) (response (refusing r)) (λ _. inr (reads-on g g t t w v c on.on a))))

piece-leaf : (g : Givens) (t : Ends) (w : World) (c b : ℕ) (s : ServingState) (o : Option Packet) → Known g t w → Leaf g t w (piece_as w c b s o)
piece-leaf g t w c b s None h = closing-leaf g t w c h
piece-leaf g t w c b s (Some p) h =
    let k = piece_as w c b s (Some p) in
    beside-leaf g t w k h (record { office = refl; stamped = refl; writer = refl; dials = refl; downs = λ _. refl; joined = refl; busy = λ e. absurd (serves-busy b s e); lower = λ _ _. tt }) (steps-same w k refl) (same-pends g t w k h refl)
    (λ v on. sent-each (UpTells g t v) c _ (each-one (UpTells g t v c) (packet p) tt))

breaking-leaf : (g : Givens) (t : Ends) (w : World) (c b : ℕ) (e : ReplicaEvent) (ms : List Message) → Known g t w → ((v : World) → Lasting g g t t w v → Each (UpTells g t v c) ms) → Leaf g t w (breaking w c b (broken (replica_at w c b)) e ms)
breaking-leaf g t w c b e ms h u =
    let k = breaking w c b (broken (replica_at w c b)) e ms in
    beside-leaf g t w k h (record { office = refl; stamped = refl; writer = refl; dials = refl; downs = λ _. refl; joined = refl; busy = λ e. absurd (ended-busy e); lower = λ _ _. tt })
    (row-steps g t w k (replica_event.Other event.FileFault) h refl tt tt) (row-pends g t w k (replica_event.Other event.FileFault) h refl tt) (λ v on. sent-each (UpTells g t v) c ms (u v on))

failing-read-leaf : (g : Givens) (t : Ends) (w : World) (c b : ℕ) (e : Result Event RequestRefusal) → Known g t w → AsksToRead w.past c → IfSome (failing_read w c b e) (Leaf g t w)
failing-read-leaf g t w c b (Err r) h a = tt
failing-read-leaf g t w c b (Ok e) h a = breaking-leaf g t w c b (replica_event.Other e) _ h (λ v on. each-one (UpTells g t v c) _ (λ _. inr (reads-on g g t t w v c on.on a)))

read-leaf : (g : Givens) (t : Ends) (w : World) (c : ℕ) (r : ReadOp) (fails : Bool) → Known g t w → AsksToRead w.past c → IfSome (read_request w c r fails) (Leaf g t w)
read-leaf g t w c r true h a = failing-read-leaf g t w c r.block.block.0 (read_event r) h a
read-leaf g t w c r false h a = read-change-leaf g t w c r.block.block.0 (read_at r (replica_at w c r.block.block.0)) h a

serve-leaf : (g : Givens) (t : Ends) (w : World) (c b : ℕ) (s : ServingState) (o : Option Event) (fails : Bool) → Known g t w → IfSome (serve_change w c b s o fails) (Leaf g t w)
serve-leaf g t w c b s None fails h = tt
serve-leaf g t w c b s (Some e) true h = breaking-leaf g t w c b (replica_event.Other e) [] h (λ v _. each-nil (UpTells g t v c))
serve-leaf g t w c b s (Some e) false h = piece-leaf g t w c b (piece_at s (replica_at w c b)).serving (piece_at s (replica_at w c b)).packet h

-- BLOCK RECOVERIES

-- a recovery's event
abbrev IsRecoveryEvent : RecoveryOp → Event → Type 0
IsRecoveryEvent q (event.Init named id) = Unit {0}
IsRecoveryEvent q (event.Update id n) = (id ≡ q.recovery) × (n ≡ q.new_length)
IsRecoveryEvent q _ = ⊥

init-is : (q : RecoveryOp) (b : Bool) (named id : Stamp) → IfOk (if b then Err no_recovery else Ok (event.Init named id)) (IsRecoveryEvent q)
init-is q true named id = tt
init-is q false named id = tt

step-is : (k : RecoveryKind) (q : RecoveryOp) → IfOk (step_event k q) (IsRecoveryEvent q)
step-is recovery_kind.Begin q = tt
step-is recovery_kind.Init q = init-is q (q.recovery.0 == 0) q.block.stamp q.recovery
step-is recovery_kind.Update q = (refl, refl)

event-is : (q : RecoveryOp) → IfOk (recovery_event q) (IsRecoveryEvent q)
unfolding recovery_event
event-is q = if-each (λ (e : Result Event RecoveryReply). IfOk e (IsRecoveryEvent q)) (is_in_pool q.block) (step_event q.kind q) _ (λ _. step-is q.kind q) (λ _. tt)

-- an update: refused, or of a replica that the recovery held, which is then FINALIZED with just that length
record IsHeldBy (c : ReplicaRecord) (id : Stamp) (n : ℕ) (d : ReplicaRecord) : Type 0 where
  pub info : ReplicaInfo
  pub is : c.info ≡ Some info
  pub holder : info.recovery ≡ Some id
  pub after : d.info ≡ Some (settled_at state.Finalized id info.sums n)

abbrev HeldOr : ReplicaRecord → Stamp → ℕ → Outcome → Type 0
HeldOr c id n (Ok t) = IsHeldBy c id n t.replica × (t.answer ≡ core_answer.Done)
HeldOr c id n (Err e) = Unit {0}

update-held-or : (c : ReplicaRecord) (id : Stamp) (n : ℕ) → HeldOr c id n (transition c (event.Update id n))
unfolding transition
update-held-or c id n = outer (present c) refl
  where
    inner : (i : ReplicaInfo) → c.info ≡ Some i → (r : Result ReplicaInfo Refusal) → end_recovery i i.recovery id n ≡ r → HeldOr c id n (with_writer c None r)
    inner i is (Err x) e = tt
    inner i is (Ok j) e = (record { info = i; is = is; holder = update-held i j i.recovery id n e; after = ap (λ (k : ReplicaInfo). Some k) (end_recovery_is i j i.recovery id n e).0 }, refl)

    outer : (r : Result ReplicaInfo Refusal) → present c ≡ r → HeldOr c id n (r >>= (λ h. with_writer c None (end_recovery h h.recovery id n)))
    outer (Err x) e = tt
    outer (Ok i) e = inner i (present_is c i e).1 (end_recovery i i.recovery id n) refl

abbrev after : FullReplica → Outcome → FullReplica
after r o = record { known = record_after r.known o; bytes = take (written_in (record_after r.known o)) (r.bytes ++ []) }

-- what is served at a replica after an outcome
abbrev Told : FullReplica → Outcome → Served
Told r o = record { replica = after r o; reply = reply_to (core.answer_of (core.reply o)) }

abbrev Serves : World → ℕ → RecoveryOp → Served → Change
Serves w c q s = recovery_change w c q s (w.breaks (node_of w c) q.block.block.0)

-- a refused row shows what it showed
refused-shown : (r : FullReplica) (e : Refusal) (s n : ℕ) (v : List ℕ) → IsFull r → Shown r s n v → Shown (after r (Err e)) s n v
refused-shown r e s n v f x = subst (λ (y : FullReplica). Shown y s n v) (sym (same r f)) x
  where
    same : (r : FullReplica) → IsFull r → after r (Err e) ≡ r
    same r f = ap (λ (bytes : List ℕ). record { known = r.known; bytes = bytes }) (whole (written_in r.known) r.bytes f.all)
      where
        whole : (n : ℕ) (v : List ℕ) → length v ≡ n → take n (v ++ []) ≡ v
        whole n v q = ap (λ (xs : List ℕ). take n xs) (append-nil v) ∙ take_all n v (omega (arith, q))

-- what is FINALIZED with these bytes shows them
updated-shown : (r q : FullReplica) (i : ReplicaInfo) (id : Stamp) (k s n : ℕ) (v : List ℕ) → q.known.info ≡ Some (settled_at state.Finalized id i.sums k) → q.bytes ≡ take k (r.bytes ++ []) → s ≤ id.0 → n ≤ k → Shown r s n v → Shown q s n v
updated-shown r q i id k s n v is bytes low le x = record {
  info = settled_at state.Finalized id i.sums k;
  is = is;
  least = low;
  visible = k;
  sees = refl;
  enough = le;
  bytes = ap (λ (xs : List ℕ). take n xs) bytes ∙ take-take n k (r.bytes ++ []) le ∙ ap (λ (xs : List ℕ). take n xs) (append-nil r.bytes) ∙ x.bytes;
  within = x.within;
}

update-steps : (g : Givens) (t : Ends) (w : World) (c : ℕ) (q : RecoveryOp) (id : Stamp) (k : ℕ) (o : Outcome) → Known g t w → w.lives (node_of w c) ≡ (w.dialled c).to.life → id ≡ q.recovery → k ≡ q.new_length
    → HeldOr (replica_at w c q.block.block.0).known id k o → ((replica_at w c q.block.block.0).known.is_broken ≡ true → (record_after (replica_at w c q.block.block.0).known o).is_broken ≡ true) → Steps w (Serves w c q (Told (replica_at w c q.block.block.0) o))
update-steps g t w c q id k (Err x) h alive e size held b = record { stamps = stamps-keep w (Serves w c q (Told (replica_at w c q.block.block.0) (Err x))) (λ i z. record { info = i; is = z; stamp = refl }); broken = b; shown = λ f _ s n v y. inl (refused-shown (replica_at w c q.block.block.0) x s n v f y) }
update-steps g t w c q id k (Ok u) h alive e size held b = record { stamps = stamps; broken = b; shown = λ f _ s n v y. go s n v y (cases_lt k n) }
  where
    r : FullReplica
    r = replica_at w c q.block.block.0

    last : Updated
    last = record { node = node_of w c; life = (w.dialled c).to.life; block = q.block.block.0; recovery = q.recovery.0; length = q.new_length }

    has : Has (Serves w c q (Told r (Ok u))).updated last
    has = subst (λ (a : RecoveryReply). Has (updated_by a (w.dialled c).to q) last) (sym (ap reply_to held.1)) (has-one _)

    -- the replica, which the recovery held, gets its id
    stamps : StampSteps w (Serves w c q (Told r (Ok u)))
    stamps i z =
        let holder : i.recovery ≡ Some q.recovery = ap (λ (y : ReplicaInfo). y.recovery) (same_Some i held.0.info (sym z ∙ held.0.is)) ∙ held.0.holder ∙ ap (λ (y : Stamp). Some y) e in
        record { info = settled_at state.Finalized id held.0.info.sums k; is = held.0.after; gets = gets_update last has refl (sym alive) refl holder (ap (λ (y : Stamp). y.0) e) }

    above : (s : ℕ) {n : ℕ} {v : List ℕ} → Shown r s n v → s < q.recovery.0
    above s y =
        let plain : IsPlain held.0.info = subst (λ (o : Option ReplicaInfo). IfSome o IsPlain) held.0.is (h.sets.plain (node_of w c) q.block.block.0) in
        let same : held.0.info ≡ y.info = same_Some held.0.info y.info (sym held.0.is ∙ y.is) in
        let low = plain.above id held.0.holder in
        omega (arith, low, y.least, ap (λ (i : ReplicaInfo). i.stamp.0) same, ap (λ (z : Stamp). z.0) e)

    bytes : (after r (Ok u)).bytes ≡ take k (r.bytes ++ [])
    bytes = ap (λ (o : Option ReplicaInfo). take (written_at o) (r.bytes ++ [])) held.0.after

    go : (s n : ℕ) (v : List ℕ) → Shown r s n v → (k < n) ⊎ (n ≤ k) → Shown (after r (Ok u)) s n v ⊎ IsCut w (Serves w c q (Told r (Ok u))) s n
    go s n v y (inr le) = inl (updated-shown r (after r (Ok u)) held.0.info id k s n v held.0.after bytes (omega (arith, above s y, ap (λ (z : Stamp). z.0) e)) le y)
    go s n v y (inl lt) = inr (record {
      entry = last;
      has = has;
      node = refl;
      life = sym alive;
      block = refl;
      above = above s y;
      fewer = omega (arith, lt, size);
    })

served-beside : (w : World) (c : ℕ) (q : RecoveryOp) (s : Served) (b : Option Break) → IsBeside w (recovery_change w c q s b)
served-beside w c q s b = record { office = refl; stamped = refl; writer = refl; dials = refl; downs = λ _. refl; joined = refl; busy = λ e. absurd (recovers-busy e); lower = λ _ _. tt }

served-ups : (g : Givens) (t : Ends) (w : World) (c : ℕ) (q : RecoveryOp) (s : Served) (b : Option Break) → (v : World) → Lasting g g t t w v → (d : ℕ) → Each (UpTells g t v d) ((recovery_change w c q s b).ups d)
served-ups g t w c q s b v on = sent-each (UpTells g t v) c _ (each-one (UpTells g t v c) (recovery_answer (answer_of s.reply)) tt)

served-event : (g : Givens) (t : Ends) (w : World) (c : ℕ) (q : RecoveryOp) (e : Event) → Known g t w → w.lives (node_of w c) ≡ (w.dialled c).to.life → IsRecoveryEvent q e → Leaf g t w (Serves w c q (served_as (replica_at w c q.block.block.0) (Ok e)))
served-event g t w c q (event.Init named id) h alive x =
    let s = served_as (replica_at w c q.block.block.0) (Ok (event.Init named id)) in
    let k = Serves w c q s in
    beside-leaf g t w k h (served-beside w c q s (w.breaks (node_of w c) q.block.block.0)) (row-steps g t w k (replica_event.Other (event.Init named id)) h refl tt tt) (row-pends g t w k (replica_event.Other (event.Init named id)) h refl tt)
    (served-ups g t w c q s (w.breaks (node_of w c) q.block.block.0))
served-event g t w c q (event.Update id n) h alive x =
    let r = replica_at w c q.block.block.0 in
    let s = served_as r (Ok (event.Update id n)) in
    let k = Serves w c q s in
    beside-leaf g t w k h (served-beside w c q s (w.breaks (node_of w c) q.block.block.0)) (update-steps g t w c q id n (transition r.known (event.Update id n)) h alive x.0 x.1 (update-held-or r.known id n) (λ b. event-broken r.known (event.Update id n) b))
    (row-pends g t w k (replica_event.Other (event.Update id n)) h refl tt) (served-ups g t w c q s (w.breaks (node_of w c) q.block.block.0))
served-event g t w c q (event.Create conn s r) h alive x = absurd x
served-event g t w c q (event.Temporary conn s r) h alive x = absurd x
served-event g t w c q (event.Append conn named new n) h alive x = absurd x
served-event g t w c q (event.AppendRecovery conn named new n) h alive x = absurd x
served-event g t w c q (event.StreamRecovery conn named new low high) h alive x = absurd x
served-event g t w c q (event.CloseRecovery named new n) h alive x = absurd x
served-event g t w c q (event.Packet conn seqno offset n sums last sync bad) h alive x = absurd x
served-event g t w c q (event.Ack conn seqno good) h alive x = absurd x
served-event g t w c q (event.Ended conn) h alive x = absurd x
served-event g t w c q (event.Read named offset n) h alive x = absurd x
served-event g t w c q (event.Give named offset n) h alive x = absurd x
served-event g t w c q event.FileFault h alive x = absurd x

served-leaf : (g : Givens) (t : Ends) (w : World) (c : ℕ) (q : RecoveryOp) (e : Result Event RecoveryReply) → Known g t w → w.lives (node_of w c) ≡ (w.dialled c).to.life → IfOk e (IsRecoveryEvent q) → Leaf g t w (Serves w c q (served_as (replica_at w c q.block.block.0) e))
served-leaf g t w c q (Err said) h alive x =
    let s = served_as (replica_at w c q.block.block.0) (Err said) in
    let k = Serves w c q s in
    beside-leaf g t w k h (served-beside w c q s (w.breaks (node_of w c) q.block.block.0)) (steps-same w k refl) (same-pends g t w k h refl) (served-ups g t w c q s (w.breaks (node_of w c) q.block.block.0))
served-leaf g t w c q (Ok e) h alive x = served-event g t w c q e h alive x

failing-recovery-leaf : (g : Givens) (t : Ends) (w : World) (c : ℕ) (q : RecoveryOp) (e : Result Event RecoveryReply) → Known g t w → IfSome (failing_recovery w c q e) (Leaf g t w)
failing-recovery-leaf g t w c q (Err said) h = tt
failing-recovery-leaf g t w c q (Ok e) h =
    let s = serve_faulted (replica_at w c q.block.block.0) in
    let b = broke_at w c q.block.block.0 (replica_event.Other e) in
    let k = recovery_change w c q s b in
    beside-leaf g t w k h (served-beside w c q s b) (row-steps g t w k (replica_event.Other event.FileFault) h refl tt tt) (row-pends g t w k (replica_event.Other event.FileFault) h refl tt) (served-ups g t w c q s b)

recovery-leaf : (g : Givens) (t : Ends) (w : World) (c : ℕ) (q : RecoveryOp) (fails : Bool) → Known g t w → w.lives (node_of w c) ≡ (w.dialled c).to.life → IfSome (recovery_request w c q fails) (Leaf g t w)
recovery-leaf g t w c q true h alive = failing-recovery-leaf g t w c q (recovery_event q) h
recovery-leaf g t w c q false h alive = served-leaf g t w c q (recovery_event q) h alive (event-is q)

-- THE LOWER END

-- what is taken, with what the bytes' facts say of it
abbrev pub NextTells : Givens → Ends → World → ℕ → Next → Type 0
NextTells g t w c (message m) = DownSays g w.past c m × DownTells g t w c m
NextTells g t w c the_end = Unit {0}

next-taken : (g : Givens) (t : Ends) (w : World) (c : ℕ) (x : Next) → NextTells g t w c x → TakenTells g t w c x
next-taken g t w c (message m) h = h.1
next-taken g t w c the_end h = tt

request-leaf : (g : Givens) (t : Ends) (w : World) (c : ℕ) (o : Op) (answered fails : Bool) → Known g t w → w.lowers c ≡ idle → c < w.next_conn → w.lives (node_of w c) ≡ (w.dialled c).to.life → NextTells g t w c (message (request o)) → IfSome (first_message w c (request o) answered fails) (Leaf g t w)
request-leaf g t w c (op.Write f) answered fails h low lt alive n = write-leaf g t w c f answered fails h n.0 low lt alive
request-leaf g t w c (op.Read r) answered fails h low lt alive n = read-leaf g t w c r fails h n.1
request-leaf g t w c (op.Recovery q) answered fails h low lt alive n = recovery-leaf g t w c q fails h alive
request-leaf g t w c (op.Transfer r) answered fails h low lt alive n = unless-leaf g t w fails c h
request-leaf g t w c (op.Checksum r) answered fails h low lt alive n = unless-leaf g t w fails c h

first-leaf : (g : Givens) (t : Ends) (w : World) (c : ℕ) (m : Message) (answered fails : Bool) → Known g t w → w.lowers c ≡ idle → c < w.next_conn → w.lives (node_of w c) ≡ (w.dialled c).to.life → NextTells g t w c (message m) → IfSome (first_message w c m answered fails) (Leaf g t w)
first-leaf g t w c (request o) answered fails h low lt alive n = request-leaf g t w c o answered fails h low lt alive n
first-leaf g t w c (packet p) answered fails h low lt alive n = unless-leaf g t w fails c h
first-leaf g t w c (ack a) answered fails h low lt alive n = unless-leaf g t w fails c h
first-leaf g t w c (response r) answered fails h low lt alive n = unless-leaf g t w fails c h
first-leaf g t w c (read_status s) answered fails h low lt alive n = unless-leaf g t w fails c h
first-leaf g t w c (recovery_answer a) answered fails h low lt alive n = unless-leaf g t w fails c h

next-op-leaf : (g : Givens) (t : Ends) (w : World) (c : ℕ) (o : Op) (fails : Bool) → Known g t w → w.lives (node_of w c) ≡ (w.dialled c).to.life → IfSome (next_recovery w c (message (request o)) fails) (Leaf g t w)
next-op-leaf g t w c (op.Write f) fails h alive = unless-leaf g t w fails c h
next-op-leaf g t w c (op.Read r) fails h alive = unless-leaf g t w fails c h
next-op-leaf g t w c (op.Recovery q) fails h alive = recovery-leaf g t w c q fails h alive
next-op-leaf g t w c (op.Transfer r) fails h alive = unless-leaf g t w fails c h
next-op-leaf g t w c (op.Checksum r) fails h alive = unless-leaf g t w fails c h

next-leaf : (g : Givens) (t : Ends) (w : World) (c : ℕ) (x : Next) (fails : Bool) → Known g t w → w.lives (node_of w c) ≡ (w.dialled c).to.life → IfSome (next_recovery w c x fails) (Leaf g t w)
next-leaf g t w c (message (request o)) fails h alive = next-op-leaf g t w c o fails h alive
next-leaf g t w c (message (packet p)) fails h alive = unless-leaf g t w fails c h
next-leaf g t w c (message (ack a)) fails h alive = unless-leaf g t w fails c h
next-leaf g t w c (message (response r)) fails h alive = unless-leaf g t w fails c h
next-leaf g t w c (message (read_status s)) fails h alive = unless-leaf g t w fails c h
next-leaf g t w c (message (recovery_answer a)) fails h alive = unless-leaf g t w fails c h
next-leaf g t w c the_end fails h alive = unless-leaf g t w fails c h

acts-of : (g : Givens) (t : Ends) (w : World) (c : ℕ) (m : FullMember) → Known g t w → w.lowers c ≡ writes m → w.lives (node_of w c) ≡ (w.dialled c).to.life → Acts g t w c m × LowerSays w.past c (writes m)
acts-of g t w c m h e alive =
    let low : LowerSays w.past c (writes m) = subst (λ (x : Lower). LowerSays w.past c x) e (h.facts.carried.lowers c) in
    (record { known = h; tells = subst (λ (x : Lower). LowerTells g w c x) e (h.acked.lowers c); conn = low.conn; alive = alive }, low)

pub lower-down-leaf : (l : Lower) (g : Givens) (t : Ends) (w : World) (c : ℕ) (x : Next) (answered fails : Bool) → Known g t w → w.lowers c ≡ l → c < w.next_conn → w.lives (node_of w c) ≡ (w.dialled c).to.life → NextTells g t w c x
    → IfSome (lower_down l w c x answered fails) (Leaf g t w)
lower-down-leaf idle g t w c (message m) answered fails h e lt alive n = first-leaf g t w c m answered fails h e lt alive n
lower-down-leaf idle g t w c the_end answered fails h e lt alive n = unless-leaf g t w fails c h
lower-down-leaf (writes m) g t w c x answered fails h e lt alive n = let a = acts-of g t w c m h e alive in down-leaf g t w c m x fails a.0 a.1 (next-taken g t w c x n)
lower-down-leaf (serves b s) g t w c x answered fails h e lt alive n = unless-leaf g t w fails c h
lower-down-leaf recovers g t w c x answered fails h e lt alive n = next-leaf g t w c x fails h alive
lower-down-leaf ended_below g t w c x answered fails h e lt alive n = tt

pub lower-ready-leaf : (l : Lower) (g : Givens) (t : Ends) (w : World) (c : ℕ) (fails : Bool) → Known g t w → w.lowers c ≡ l → w.lives (node_of w c) ≡ (w.dialled c).to.life → IfSome (lower_ready l w c fails) (Leaf g t w)
lower-ready-leaf idle g t w c fails h e alive = tt
lower-ready-leaf (writes m) g t w c fails h e alive = let a = acts-of g t w c m h e alive in ready-leaf g t w c m fails a.0 a.1
lower-ready-leaf (serves b s) g t w c fails h e alive = serve-leaf g t w c b s (next_call s) fails h
lower-ready-leaf recovers g t w c fails h e alive = tt
lower-ready-leaf ended_below g t w c fails h e alive = tt

pub mirror-up-leaf : (l : Lower) (g : Givens) (t : Ends) (w : World) (d c : ℕ) (x : Next) (fails : Bool) → Known g t w → w.lowers d ≡ l → (is_alive w (w.dialled d).to ≡ true → w.lives (node_of w d) ≡ (w.dialled d).to.life) → Mirrors w.past d c → HeardTells g t w c x
    → IfSome (mirror_up l w d x fails) (Leaf g t w)
mirror-up-leaf idle g t w d c x fails h e alive m n = tt
mirror-up-leaf (writes y) g t w d c x fails h e alive m n =
    when-each (Leaf g t w) (is_alive w (w.dialled d).to) _ (λ z. let a = acts-of g t w d y h e (alive z) in up-leaf g t w d c y x fails a.0 a.1 (from-mirror w d c y a.0.tells.pipe.asked m) n)
mirror-up-leaf (serves b s) g t w d c x fails h e alive m n = tt
mirror-up-leaf recovers g t w d c x fails h e alive m n = tt
mirror-up-leaf ended_below g t w d c x fails h e alive m n = tt
