-- Clients in their places, and what was asked.
use Rattle.std.proofs.Common.{◌≡◌, ℕ, zero, suc, ◌<◌, ◌+◌, ◌==◌, Bool, true, false, if◌then◌else◌, arith, List, [], ◌∷◌, ◌++◌, drop, map, slice_get, slice_set, Some, refl, sym, ap, ◌∙◌, subst}
use Rattle.hd_base.specs.declared.numbers.NodeId.{NodeId}
use Rattle.std.proofs.lemmas.Option.{same_Some}
use Rattle.play_model.specs.declared.recoveries.Recovery.{Recovery}
use Rattle.play_model.specs.Recoveries.{stopped_at}
use Rattle.play_model.specs.States.{PlayState}
use Rattle.play_opening.specs.PlayClients.Client.{Client}
use Rattle.play_opening.specs.PlayClients.Blocks.{blocks_of}
use Rattle.play_opening.specs.PlayDues.Showing.{HasClient}
use Rattle.play_lines.specs.Lines.{AsksBelow}

pub set_numbers : {I O : Type 0} (xs : List (Client I O)) (k : ℕ) (a b : Client I O) → slice_get xs k ≡ Some a → b.block.0 ≡ a.block.0 → blocks_of (slice_set xs k b) ≡ blocks_of xs
set_numbers [] k a b at e = refl
set_numbers {I} {O} (x ∷ xs) zero a b at e = ap (λ (n : ℕ). n ∷ blocks_of xs) (e ∙ sym (ap (λ (y : Client I O). y.block.0) (same_Some x a at)))
set_numbers (x ∷ xs) (suc k) a b at e = ap (λ (ns : List ℕ). x.block.0 ∷ ns) (set_numbers xs k a b at e)

same_place : {I O : Type 0} (xs ys : List (Client I O)) → blocks_of xs ≡ blocks_of ys → (k : ℕ) (y : Client I O) → slice_get ys k ≡ Some y → (x : Client I O) × ((slice_get xs k ≡ Some x) × (x.block.0 ≡ y.block.0))
same_place xs [] e k y at = cc
same_place [] (z ∷ ys) e k y at = cc
same_place (x ∷ xs) (z ∷ ys) e zero y at = (x, (refl, same_Some x.block.0 y.block.0 (ap (λ (ns : List ℕ). slice_get ns 0) e ∙ ap (λ (a : _). Some a.block.0) (same_Some z y at))))
same_place (x ∷ xs) (z ∷ ys) e (suc k) y at = same_place xs ys (ap (λ (ns : List ℕ). drop 1 ns) e) k y at

pub moved : {I O : Type 0} (xs ys : List (Client I O)) (b : ℕ) → blocks_of xs ≡ blocks_of ys → HasClient ys b → HasClient xs b
moved xs ys b e h =
    let k = same_place xs ys e h.place h.client h.found in
    record { place = h.place; client = k.0; found = k.1.0; block = k.1.1 ∙ h.block }

-- WHAT WAS ASKED

pub less_next : (a n : ℕ) → a < n → a < n + 1
less_next a n h = omega (arith, h)

-- a line that asks nothing
pub asked_next : (number : ℕ) (p : PlayState) → AsksBelow number p → AsksBelow (number + 1) p
asked_next number p h = record {
  reads = λ k ask at. less_next ask.reader number (h.reads k ask at);
  recovers = λ k rec at. less_next rec.primary number (h.recovers k rec at);
}

pub below_next : (n : ℕ) → n < n + 1
below_next n = omega arith

-- LISTS

-- what holds of each of these and of one more holds of each with it
pub each_more : {A : Type 0} (P : A → Type 0) (xs : List A) (x : A) → ((k : ℕ) (a : A) → slice_get xs k ≡ Some a → P a) → P x → (k : ℕ) (a : A) → slice_get (xs ++ x ∷ []) k ≡ Some a → P a
each_more P [] x each here zero a at = subst P (same_Some x a at) here
each_more P [] x each here (suc k) a at = cc
each_more P (y ∷ xs) x each here zero a at = each zero a at
each_more P (y ∷ xs) x each here (suc k) a at = each_more P xs x (λ j b e. each (suc j) b e) here k a at

-- what holds of each recovery, and of each at which a node stops, holds of each where the node has stopped
pub each_stopped : (P : Recovery → Type 0) (node : NodeId) → ((x : Recovery) → P x → P (stopped_at node x)) → (rs : List Recovery) → ((k : ℕ) (x : Recovery) → slice_get rs k ≡ Some x → P x) → (k : ℕ) (x : Recovery) → slice_get (map (stopped_at node) rs) k ≡ Some x → P x
each_stopped P node stops [] each k x at = cc
each_stopped P node stops (y ∷ rs) each zero x at = subst P (same_Some (stopped_at node y) x at) (stops y (each 0 y refl))
each_stopped P node stops (y ∷ rs) each (suc k) x at = each_stopped P node stops rs (λ j a e. each (suc j) a e) k x at

-- number and members stay
pub stopped_number : (node : NodeId) (rec : Recovery) → (stopped_at node rec).primary ≡ rec.primary
stopped_number node rec = by (rec.node.0 == node.0)
  where
    by : (t : Bool) → (if t then record rec { may_begin = false } else rec).primary ≡ rec.primary
    by true = refl
    by false = refl

pub stopped_members : (node : NodeId) (rec : Recovery) → (stopped_at node rec).members ≡ rec.members
stopped_members node rec = by (rec.node.0 == node.0)
  where
    by : (t : Bool) → (if t then record rec { may_begin = false } else rec).members ≡ rec.members
    by true = refl
    by false = refl
