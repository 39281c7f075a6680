-- The files that belong to no replica.
use Rattle.std.proofs.Common.{◌≡◌, ◌⊎◌, inl, inr, ℕ, zero, suc, ◌<◌, ◌≤◌, ◌==◌, ◌||◌, Bool, true, false, List, [], ◌∷◌, length, get_or, Result, Ok, Err, AllPairs, refl, sym, ap, arith}
use Rattle.std.specs.Prelude.{is_ok}
use Rattle.std.specs.List.Sorted.{IsStrictlyIncreasing, IsBinarySearchResult}
use Rattle.std.specs.Ordering.{nat_cmp}
use Rattle.std.proofs.lemmas.Bool.{cases_lt}
use Rattle.std.proofs.lemmas.Bool.Decides.{Decides-eqb}
use Rattle.std.proofs.lemmas.List.Sorted.{searched}
use Rattle.std.proofs.lemmas.List.Kept.{AllPairs-from_increasing}
use Rattle.restart_scan.specs.Shelves.{is_among}

true_false : true ≡ false → ⊥
true_false e = cc

any_here : (l : List ℕ) (x i : ℕ) → i < length l → get_or l i 0 ≡ x → is_among l x ≡ true
any_here [] x i within is = absurd (omega (arith, within))
any_here (y ∷ l) x zero within is = ap (λ (b : Bool). b || is_among l x) ((Decides-eqb y x).1 is)
any_here (y ∷ l) x (suc i) within is = or_right (y == x) (is_among l x) (any_here l x i (omega (arith, within)) is) where
  or_right : (p q : Bool) → q ≡ true → (p || q) ≡ true
  or_right true q e = refl
  or_right false q e = e

any_none : (l : List ℕ) (x : ℕ) → ((k : ℕ) → k < length l → get_or l k 0 ≡ x → ⊥) → is_among l x ≡ false
any_none [] x none = refl
any_none (y ∷ l) x none = both (y == x) (is_among l x) (first (y == x) refl) (any_none l x (λ k within is. none (suc k) (omega (arith, within)) is)) where
  first : (b : Bool) → (y == x) ≡ b → (y == x) ≡ false
  first true e = absurd (none 0 (omega arith) ((Decides-eqb y x).0 e))
  first false e = e

  both : (p q : Bool) → p ≡ false → q ≡ false → (p || q) ≡ false
  both true q e f = e
  both false q e f = f

rises : (l : List ℕ) → IsStrictlyIncreasing l → (i j : ℕ) → i ≤ j → j < length l → get_or l i 0 ≤ get_or l j 0
rises l up i j h within = by (AllPairs-from_increasing l up) (same_or_less i j h) where
  same_or_less : (i j : ℕ) → i ≤ j → (i ≡ j) ⊎ (i < j)
  same_or_less i j h = search arith

  by : AllPairs (λ x y. x < y) l → (i ≡ j) ⊎ (i < j) → get_or l i 0 ≤ get_or l j 0
  by pairs (inl e) = omega (arith, ap (λ k. get_or l k 0) e)
  by pairs (inr less) = omega (arith, pairs i j 0 less within)

pub among_searched : (l : List ℕ) (x : ℕ) (r : Result ℕ ℕ) → IsBinarySearchResult (λ y. nat_cmp y x) l r → IsStrictlyIncreasing l → is_ok r ≡ is_among l x
among_searched l x (Ok i) found up = let h = searched l x (Ok i) found (rises l up) in sym (any_here l x i h.0 h.1)
among_searched l x (Err i) found up =
    let h = searched l x (Err i) found (rises l up) in
    sym (any_none l x (λ k within is. elim (cases_lt k i) [
      | inl before ↦ omega (arith, h.1 k before, is)
      | inr from ↦ omega (arith, h.2 k from within, is)
    ]))
