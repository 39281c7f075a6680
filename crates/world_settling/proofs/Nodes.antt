-- What lower ends that are no members change, and reads that are served.
use Rattle.std.proofs.Common.{◌≡◌, ℕ, ◌<◌, ◌≤◌, ◌+◌, ◌-◌, ◌*◌, Bool, true, false, List, [], ◌∷◌, Option, Some, IfSome, min, Result, Ok, Err, refl, sym, ap, arith}
use Rattle.std.specs.Prelude.{sum_by, ◌==◌, if◌then◌else◌}
use Rattle.std.proofs.lemmas.Bool.Decides.{nat_tests}
use Rattle.replica_core.specs.declared.events.Answer.{Answer}
use Rattle.replica_core.specs.declared.events.Answer.TheVariants as answer
use Rattle.replica_core.specs.declared.events.Event.{Event}
use Rattle.replica_core.specs.declared.events.Event.TheVariants as event
use Rattle.replica_model.specs.declared.events.ReplicaEvent.TheVariants as replica_event
use Rattle.replica_model.specs.Rows.{FullReplica, row_answer}
use Rattle.op_headers.specs.declared.ops.RecoveryKind.{RecoveryKind}
use Rattle.op_headers.specs.declared.ops.RecoveryKind.TheVariants as kind
use Rattle.op_headers.specs.declared.ops.RecoveryOp.{RecoveryOp}
use Rattle.request_refusals.specs.declared.refusals.RequestRefusal.TheVariants as request_refusal
use Rattle.request_refusals.specs.Pools.{is_in_pool}
use Rattle.world.specs.RecoveryCore.RecoveryReply.{RecoveryReply}
use Rattle.world.specs.RecoveryCore.RecoveryReply.TheVariants as reply
use Rattle.world.specs.RecoveryCore.Members.{Served, no_recovery, step_event, recovery_event, answer_of, served_as, serve, serve_faulted}
use Rattle.world.specs.ReadCore.ServePhase.{ServePhase}
use Rattle.world.specs.ReadCore.ServePhase.TheVariants as phase
use Rattle.world.specs.ReadCore.Servings.{ServingState, most_bytes, piece_len, packet_of, piece_of, piece_event, next_call, call_at, phase_behind, gone_on, sent, sent_in, piece_as, faulted_piece}
use Rattle.world.specs.Parts.{Message, packet, recovery_answer, Break, Lower, serves}
use Rattle.world.specs.Worlds.{World, Change, apply}
use Rattle.world.specs.Connections.{sent_on}
use Rattle.world.specs.Nodes.{replica_at, breaking, piece_change, serve_change, recovery_change, failing_recovery, recovery_request}
use Rattle.world.specs.Nodes as nodes
use Rattle.world_settling.specs.Traffic.{sum_to, down_way, up_way, up_weight, sides, lower_weight, serving_weight, entries, entries_of, entries_by, traffic}
use Rattle.world_settling.proofs.Sums.{sum-at}
use Rattle.world_settling.proofs.Frame.{Eases, entries-each, downs-quiet, ups-sent, sides-same}
use Rattle.world_settling.proofs.Outer.{conns-stay}
use Rattle.world_settling.proofs.Rows.{other-calm}
use Rattle.world_settling.proofs.Clients.{Falls}
use Rattle.world_settling.proofs.Members.{lower-other, lower-here}

-- A change of one lower end, which sends only up, and behind which nothing is pending there.
pub record AtNode (w : World) (k : Change) (us : List Message) : Type 0 where
  pub known : k.lower_at < w.next_conn
  pub dials : k.dials ≡ []
  pub downs : (c : ℕ) → k.downs c ≡ []
  pub ups : (c : ℕ) → k.ups c ≡ sent_on (Some k.lower_at) us c
  pub eases : (i : ℕ) → Eases w k i
  pub free : entries_of k.lower (apply w k) k.lower_at ≡ 0

pub node-frame : (w : World) (k : Change) (us : List Message) → AtNode w k us
    → traffic (apply w k) + lower_weight (w.lowers k.lower_at) ≤ traffic w + sum_by up_weight us + lower_weight k.lower
unfolding traffic
node-frame w k us h =
    let v : World = apply w k in
    let c : ℕ = k.lower_at in
    let n = conns-stay w k h.dials in
    let lowers : sum_to (λ i. lower_weight (v.lowers i)) w.next_conn + lower_weight (w.lowers c) ≤ sum_to (λ i. lower_weight (w.lowers i)) w.next_conn + lower_weight (v.lowers c) =
    sum-at (λ i. lower_weight (w.lowers i)) (λ i. lower_weight (v.lowers i)) w.next_conn c (λ i l ne. let e = ap lower_weight (lower-other w k i ne) in omega (arith, e)) h.known in
    let held : sum_to (entries v) w.next_conn + entries w c ≤ sum_to (entries w) w.next_conn + entries v c =
    sum-at (entries w) (entries v) w.next_conn c
    (λ i l ne. let e = ap (λ (y : Lower). entries_of y v i) (lower-other w k i ne) in omega (arith, e, entries-each w k i (w.lowers i) l (h.eases i))) h.known in
    let new-weight = ap lower_weight (lower-here w k) in
    let new-held = ap (λ (y : Lower). entries_of y v c) (lower-here w k) in
    omega (
      arith,
      downs-quiet w k h.downs,
      ups-sent w k c us h.ups,
      sides-same w k,
      lowers,
      held,
      new-weight,
      new-held,
      h.free,
      ap (sum_to (down_way v)) n,
      ap (sum_to (up_way v)) n,
      ap (sum_to (sides v)) n,
      ap (sum_to (λ i. lower_weight (v.lowers i))) n,
      ap (sum_to (entries v)) n,
    )

pub sent-none : (d c : ℕ) → sent_on (Some d) [] c ≡ []
sent-none d c = at (c == d)
  where
    at : (b : Bool) → ◌≡◌ {A = List Message} (if b then [] else []) []
    at true = refl
    at false = refl

-- READS

-- a packet of a read lowers what is still to be sent by more than it weighs
gone-lighter : (s : ServingState) → s.phase ≡ phase.Sending → serving_weight (gone_on s).phase (gone_on s) + 3 ≤ serving_weight phase.Sending s
unfolding gone_on piece_len
gone-lighter s e = at (min (s.end - s.at) (most_bytes s.rule.chunk)) refl
  where
    at : (n : ℕ) → min (s.end - s.at) (most_bytes s.rule.chunk) ≡ n
        → serving_weight (phase_behind n) (record s { at = s.at + n; phase = phase_behind n }) + 3 ≤ 3 * (s.end - s.at) + 3
    at n q = by-none (n == 0) refl
      where
        by-none : (b : Bool) → (n == 0) ≡ b → serving_weight (if b then phase.Awaiting else phase.Sending) (record s { at = s.at + n; phase = if b then phase.Awaiting else phase.Sending }) + 3 ≤ 3 * (s.end - s.at) + 3
        by-none true z = omega arith
        by-none false z = let some : 1 ≤ n = grind (arith, nat_tests, z) in omega (arith, q, some)

ending : (w : World) (c b : ℕ) (s : ServingState) → c < w.next_conn → w.lowers c ≡ serves b s → s.phase ≡ phase.Sending → Falls w 0 (nodes.closing w c)
ending w c b s lt l p =
    let frame = node-frame w (nodes.closing w c) [] (record { known = lt; dials = refl; downs = λ d. refl; ups = λ d. sym (sent-none c d); eases = λ i. omega arith; free = refl }) in
    let weight : lower_weight (w.lowers c) ≡ serving_weight s.phase s = ap lower_weight l in
    let sends : serving_weight s.phase s ≡ serving_weight phase.Sending s = ap (λ (x : ServePhase). serving_weight x s) p in
    record { is = omega (arith, frame, weight, sends) }

-- a read that ends early, or is over
serve-as : (w : World) (c b : ℕ) (s : ServingState) (a : Answer) → c < w.next_conn → w.lowers c ≡ serves b s → s.phase ≡ phase.Sending
    → Falls w 0 (piece_change w c b (piece_as s (replica_at w c b) a))
serve-as w c b s (answer.Visible n) lt l p =
    let k : Change = piece_change w c b (piece_as s (replica_at w c b) (answer.Visible n)) in
    let frame = node-frame w k (packet (packet_of s (piece_of (replica_at w c b) s)) ∷ []) (record { known = lt; dials = refl; downs = λ d. refl; ups = λ d. refl; eases = λ i. omega arith; free = refl }) in
    let weight : lower_weight (w.lowers c) ≡ serving_weight s.phase s = ap lower_weight l in
    let sends : serving_weight s.phase s ≡ serving_weight phase.Sending s = ap (λ (x : ServePhase). serving_weight x s) p in
    let goes : sent s ≡ gone_on s = ap (λ (x : ServePhase). sent_in x s) p in
    let after = ap (λ (t : ServingState). serving_weight t.phase t) goes in
    record { is = omega (arith, frame, weight, sends, after, gone-lighter s p) }
serve-as w c b s answer.Done lt l p = ending w c b s lt l p
serve-as w c b s (answer.Info x y z) lt l p = ending w c b s lt l p
serve-as w c b s (answer.Refused r) lt l p = ending w c b s lt l p

broken-read : (w : World) (c b : ℕ) (s : ServingState) (e : Event) → c < w.next_conn → w.lowers c ≡ serves b s → s.phase ≡ phase.Sending
    → Falls w 0 (breaking w c b (faulted_piece s (replica_at w c b)).0 (replica_event.Other e) [])
broken-read w c b s e lt l p =
    let frame = node-frame w (breaking w c b (faulted_piece s (replica_at w c b)).0 (replica_event.Other e) []) []
    (record { known = lt; dials = refl; downs = λ d. refl; ups = λ d. refl; eases = λ i. other-calm i (replica_at w c b).known event.FileFault refl; free = refl }) in
    let weight : lower_weight (w.lowers c) ≡ serving_weight s.phase s = ap lower_weight l in
    let sends : serving_weight s.phase s ≡ serving_weight phase.Sending s = ap (λ (x : ServePhase). serving_weight x s) p in
    record { is = omega (arith, frame, weight, sends) }

pub serve-falls : (w : World) (c b : ℕ) (s : ServingState) (fails : Bool) → c < w.next_conn → w.lowers c ≡ serves b s → IfSome (serve_change w c b s (next_call s) fails) (Falls w 0)
serve-falls w c b s fails lt l = at s.phase refl fails
  where
    at : (x : ServePhase) → s.phase ≡ x → (f : Bool) → IfSome (serve_change w c b s (call_at x s) f) (Falls w 0)
    at phase.Sending p true = broken-read w c b s (piece_event s) lt l p
    at phase.Sending p false = serve-as w c b s (row_answer (replica_at w c b) (replica_event.Other (piece_event s))) lt l p
    at phase.Awaiting p f = tt
    at phase.Over p f = tt

-- WHAT IS TAKEN FROM ABOVE BY OTHERS THAN MEMBERS

pub closing-falls : (w : World) (c paid : ℕ) → c < w.next_conn → 1 ≤ paid → Falls w paid (nodes.closing w c)
closing-falls w c paid lt p =
    let frame = node-frame w (nodes.closing w c) [] (record { known = lt; dials = refl; downs = λ d. refl; ups = λ d. sym (sent-none c d); eases = λ i. omega arith; free = refl }) in
    record { is = omega (arith, frame, p) }

pub recovery-falls : (w : World) (c paid : ℕ) (r : RecoveryOp) (s : Served) (b : Option Break) → c < w.next_conn → 3 ≤ paid
    → ((i : ℕ) → entries_by i s.replica.known ≤ entries_by i (replica_at w c r.block.block.0).known) → Falls w paid (recovery_change w c r s b)
recovery-falls w c paid r s b lt p calm =
    let frame = node-frame w (recovery_change w c r s b) (recovery_answer (answer_of s.reply) ∷ []) (record { known = lt; dials = refl; downs = λ d. refl; ups = λ d. refl; eases = calm; free = refl }) in
    record { is = omega (arith, frame, p) }

-- an event of a block recovery makes nothing pending
served-calm : (i : ℕ) (r : FullReplica) (op : RecoveryOp) → entries_by i (serve r op).replica.known ≤ entries_by i r.known
unfolding recovery_event
served-calm i r op = at (is_in_pool op.block)
  where
    by-init : (t : Bool) → entries_by i (served_as r (if t then Err no_recovery else Ok (event.Init op.block.stamp op.recovery))).replica.known ≤ entries_by i r.known
    by-init true = omega arith
    by-init false = other-calm i r.known (event.Init op.block.stamp op.recovery) refl

    by-kind : (k : RecoveryKind) → entries_by i (served_as r (step_event k op)).replica.known ≤ entries_by i r.known
    by-kind kind.Begin = omega arith
    by-kind kind.Init = by-init (op.recovery.0 == 0)
    by-kind kind.Update = other-calm i r.known (event.Update op.recovery op.new_length) refl

    at : (t : Bool) → entries_by i (served_as r (if t then step_event op.kind op else Err (reply.Refused request_refusal.Pool))).replica.known ≤ entries_by i r.known
    at true = by-kind op.kind
    at false = omega arith

failing-recovery-falls : (w : World) (c paid : ℕ) (r : RecoveryOp) (e : Result Event RecoveryReply) → c < w.next_conn → 3 ≤ paid → IfSome (failing_recovery w c r e) (Falls w paid)
failing-recovery-falls w c paid r (Err said) lt p = tt
failing-recovery-falls w c paid r (Ok e) lt p = recovery-falls w c paid r (serve_faulted (replica_at w c r.block.block.0)) _ lt p (λ i. other-calm i (replica_at w c r.block.block.0).known event.FileFault refl)

pub recovery-request-falls : (w : World) (c paid : ℕ) (r : RecoveryOp) (fails : Bool) → c < w.next_conn → 3 ≤ paid → IfSome (recovery_request w c r fails) (Falls w paid)
recovery-request-falls w c paid r true lt p = failing-recovery-falls w c paid r (recovery_event r) lt p
recovery-request-falls w c paid r false lt p =
    recovery-falls w c paid r (serve (replica_at w c r.block.block.0) r) _ lt p (λ i. served-calm i (replica_at w c r.block.block.0) r)
