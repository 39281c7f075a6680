-- What the answer to a request of a recovery sends.
use Rattle.std.proofs.Common.{◌≡◌, ℕ, Bool, true, false, List, [], ◌∷◌, ◌++◌, Option, None, refl, sym, ◌∙◌, subst}
use Rattle.std.specs.Prelude.{◌==◌, ◌-◌, ◌||◌, ◌&&◌, cond, nat_le, slice_get, option_map, if◌then◌else◌}
use Rattle.std.proofs.lemmas.Bool.{eqb-true}
use Rattle.std.proofs.lemmas.List.{append-nil}
use Rattle.op_headers.specs.declared.ops.RecoveryOp.{RecoveryOp}
use Rattle.block_recovery.specs.RecoveryCore.Members.{Served}
use Rattle.road_traffic.proofs.TrafficLemmas.{same-itself}
use Rattle.world_orders.specs.World.Parts.{Message, Break}
use Rattle.world_orders.specs.World.Worlds.{World, Dial, dial_at, listed}
use Rattle.world_orders.specs.World.Nodes.{recovery_change}
use Rattle.member_events.specs.WorldNets.Changes.{sent_in, sent_by}
use Rattle.member_events.specs.WorldNets.Steps.{SendsBy}
use Rattle.member_events.specs.WorldNets.Flushing.{lower_flush}
use Rattle.member_events.proofs.WorldNets.ChangeLemmas.{flip-false}
use Rattle.recovery_events.specs.Sending.{answer_messages}

flip : (a b : ℕ) → (a == b) ≡ (b == a)
flip a b =
    elim (a == b) as (λ v. (a == b) ≡ v → v ≡ (b == a)) [
      | true ↦ λ e. sym (subst (λ n. (n == a) ≡ true) (eqb-true a b e) (same-itself a))
      | false ↦ λ e. sym (flip-false a b e)
    ] refl

-- without dials no request is sent
none_asked : (next x : ℕ) → listed (option_map (λ (d : Dial). d.request) (dial_at next [] x)) ≡ []
none_asked next x = nothing_at (nat_le next x) (x - next)
  where
    nothing_at : (b : Bool) (n : ℕ) → listed (option_map (λ (d : Dial). d.request) (if b then slice_get [] n else None)) ≡ []
    nothing_at true n = refl
    nothing_at false n = refl

none_down : (b : Bool) (ms : List Message) → [] ≡ cond (b && false) ms [] ++ []
none_down true ms = refl
none_down false ms = refl

sent_up : (b a : Bool) (ms : List Message) → b ≡ a → (if a then ms else []) ≡ cond (b && true) ms [] ++ []
sent_up true true ms e = sym (append-nil ms)
sent_up true false ms e = cc
sent_up false true ms e = cc
sent_up false false ms e = refl

unshut : (b : Bool) → false ≡ ((b && false) || false)
unshut true = refl
unshut false = refl

pub recovery_sends : (w : World) (c : ℕ) (r : RecoveryOp) (s : Served) (b : Option Break) → SendsBy w (recovery_change w c r s b) (lower_flush c false (answer_messages s) ∷ [])
recovery_sends w c r s b = record {
  none = refl;
  changes = record { sends = sends; shuts = λ x. unshut (c == x); apart = (tt, tt) };
}
  where
    sends : (x : ℕ) (d : Bool) → sent_in w (recovery_change w c r s b) x d ≡ sent_by (lower_flush c false (answer_messages s) ∷ []) x d
    sends x true = none_asked w.next_conn x ∙ none_down (c == x) (answer_messages s)
    sends x false = sent_up (c == x) (x == c) (answer_messages s) (flip c x)
