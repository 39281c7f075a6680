-- A read request that is taken makes less than it weighs.
use Rattle.std.proofs.Common.{ℕ, ◌<◌, ◌≤◌, ◌+◌, ◌-◌, ◌*◌, Bool, true, false, [], ◌∷◌, Option, Some, None, IfSome, Result, Ok, Err, min, refl, arith}
use Rattle.std.specs.Prelude.{◌==◌, ◌%◌, if◌then◌else◌}
use Rattle.std.proofs.lemmas.Nat.{mod_below}
use Rattle.hd_base.specs.SumRules.{Rule, IsChunkSize}
use Rattle.op_headers.specs.declared.ops.ReadOp.{ReadOp}
use Rattle.replica_core.specs.declared.events.Answer.{Answer}
use Rattle.replica_core.specs.declared.events.Answer.TheVariants as answer
use Rattle.replica_core.specs.declared.events.Event.{Event}
use Rattle.replica_core.specs.declared.events.Event.TheVariants as event
use Rattle.replica_core.specs.Views.{rule_in}
use Rattle.replica_model.specs.declared.events.ReplicaEvent.TheVariants as replica_event
use Rattle.replica_model.specs.Rows.{FullReplica, row_answer, broken}
use Rattle.request_refusals.specs.declared.refusals.RequestRefusal.{RequestRefusal}
use Rattle.request_refusals.specs.declared.refusals.RequestRefusal.TheVariants as refusal
use Rattle.world.specs.ReadCore.Servings.{chunk_start, chunk_end, read_end, begun, begun_as, begun_at, read_event, accepting, refusing}
use Rattle.world.specs.Parts.{response}
use Rattle.world.specs.Worlds.{World}
use Rattle.world.specs.Nodes.{replica_at, breaking, read_change, failing_read, read_request}
use Rattle.world_settling.specs.Traffic.{serving_weight}
use Rattle.world_settling.proofs.Rows.{other-calm}
use Rattle.world_settling.proofs.Clients.{Falls}
use Rattle.world_settling.proofs.Nodes.{node-frame}

-- THE LENGTH OF A READ THAT IS SERVED

mod-chunk : (n k : ℕ) → IsChunkSize k → n % k ≤ 65536
mod-chunk n k h = omega (arith, mod_below n k (omega (arith, h.least)), h.greatest)

read-within : (rule : Rule) (offset bytes visible : ℕ) → IsChunkSize rule.chunk → read_end rule offset bytes visible - chunk_start rule.chunk offset ≤ bytes + 131072
unfolding read_end
read-within rule offset bytes visible h = at (bytes == 0)
  where
    at : (b : Bool) → (if b then chunk_start rule.chunk offset else min visible (chunk_end rule.chunk (offset + bytes))) - chunk_start rule.chunk offset ≤ bytes + 131072
    at true = omega arith
    at false =
        omega (arith, mod-chunk offset rule.chunk h, mod-chunk (rule.chunk - (offset + bytes) % rule.chunk) rule.chunk h)

begun-weighs : (r : ReadOp) (rule : Rule) (visible : ℕ) → IsChunkSize rule.chunk → serving_weight (begun r rule visible).phase (begun r rule visible) ≤ 3 * (r.len + 131072) + 3
unfolding begun
begun-weighs r rule visible h = omega (arith, read-within rule r.offset r.len visible h)

-- THE REQUEST

refused-falls : (w : World) (c b : ℕ) (x : RequestRefusal) (paid : ℕ) → c < w.next_conn → 3 ≤ paid → Falls w paid (read_change w c b (Err x))
refused-falls w c b x paid lt p =
    let frame = node-frame w (read_change w c b (Err x)) (response (refusing x) ∷ []) (record { known = lt; dials = refl; downs = λ d. refl; ups = λ d. refl; eases = λ i. omega arith; free = refl }) in
    record { is = omega (arith, frame, p) }

begun-falls : (w : World) (c b : ℕ) (r : ReadOp) (rule : Rule) (visible : ℕ) → c < w.next_conn → IsChunkSize rule.chunk → Falls w (3 * (r.len + 131072) + 6) (read_change w c b (Ok (begun r rule visible)))
begun-falls w c b r rule visible lt h =
    let frame = node-frame w (read_change w c b (Ok (begun r rule visible))) (response (accepting (begun r rule visible)) ∷ [])
    (record { known = lt; dials = refl; downs = λ d. refl; ups = λ d. refl; eases = λ i. omega arith; free = refl }) in
    record { is = omega (arith, frame, begun-weighs r rule visible h) }

served-falls : (w : World) (c b : ℕ) (r : ReadOp) (o : Option Rule) (a : Answer) → c < w.next_conn → IfSome o (λ rule. IsChunkSize rule.chunk)
    → Falls w (3 * (r.len + 131072) + 6) (read_change w c b (begun_as r o a))
served-falls w c b r (Some rule) (answer.Visible v) lt h = begun-falls w c b r rule v lt h
served-falls w c b r (Some rule) (answer.Refused x) lt h = refused-falls w c b (refusal.Core x) _ lt (omega arith)
served-falls w c b r (Some rule) answer.Done lt h = refused-falls w c b refusal.File _ lt (omega arith)
served-falls w c b r (Some rule) (answer.Info x y z) lt h = refused-falls w c b refusal.File _ lt (omega arith)
served-falls w c b r None (answer.Visible v) lt h = refused-falls w c b refusal.File _ lt (omega arith)
served-falls w c b r None (answer.Refused x) lt h = refused-falls w c b (refusal.Core x) _ lt (omega arith)
served-falls w c b r None answer.Done lt h = refused-falls w c b refusal.File _ lt (omega arith)
served-falls w c b r None (answer.Info x y z) lt h = refused-falls w c b refusal.File _ lt (omega arith)

read-as : (w : World) (c : ℕ) (r : ReadOp) (o : Result Event RequestRefusal) → c < w.next_conn → IfSome (rule_in (replica_at w c r.block.block.0).known) (λ rule. IsChunkSize rule.chunk)
    → Falls w (3 * (r.len + 131072) + 6) (read_change w c r.block.block.0 (begun_at r (replica_at w c r.block.block.0) o))
read-as w c r (Err x) lt h = refused-falls w c r.block.block.0 x _ lt (omega arith)
read-as w c r (Ok e) lt h =
    served-falls w c r.block.block.0 r (rule_in (replica_at w c r.block.block.0).known) (row_answer (replica_at w c r.block.block.0) (replica_event.Other e)) lt h

failing-falls : (w : World) (c b paid : ℕ) (o : Result Event RequestRefusal) → c < w.next_conn → 3 ≤ paid → IfSome (failing_read w c b o) (Falls w paid)
failing-falls w c b paid (Err x) lt p = tt
failing-falls w c b paid (Ok e) lt p =
    let r : FullReplica = replica_at w c b in
    let frame = node-frame w (breaking w c b (broken r) (replica_event.Other e) (response (refusing refusal.File) ∷ [])) (response (refusing refusal.File) ∷ [])
    (record { known = lt; dials = refl; downs = λ d. refl; ups = λ d. refl; eases = λ i. other-calm i r.known event.FileFault refl; free = refl }) in
    record { is = omega (arith, frame, p) }

pub read-falls : (w : World) (c : ℕ) (r : ReadOp) (fails : Bool) → c < w.next_conn → IfSome (rule_in (replica_at w c r.block.block.0).known) (λ rule. IsChunkSize rule.chunk)
    → IfSome (read_request w c r fails) (Falls w (3 * (r.len + 131072) + 6))
read-falls w c r true lt h = failing-falls w c r.block.block.0 _ (read_event r) lt (omega arith)
read-falls w c r false lt h = read-as w c r (read_event r) lt h
