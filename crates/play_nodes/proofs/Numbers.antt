-- What stands in the order of its numbers.
use Rattle.std.proofs.Common.{◌≡◌, ◌<◌, ◌≤◌, ◌++◌, ℕ, zero, suc, List, [], ◌∷◌, length, get_or, slice_get, Some, ◌⊎◌, inl, inr, Result, Ok, Err, Less, Equal, Greater, refl, sym, ap, ◌∙◌, arith}
use Rattle.std.specs.List.Sorted.{IsSearchInRange, IsBinarySearchResult, IsNonDecreasingBy, IsPartitionPoint}
use Rattle.std.specs.Ordering.{nat_cmp, ordering_index}
use Rattle.std.specs.Result.{result_ok}
use Rattle.std.proofs.lemmas.Bool.{cases_lt}
use Rattle.std.proofs.lemmas.Bool.Decides.{nat_tests}
use Rattle.std.proofs.lemmas.Cmp.{ranked}
use Rattle.std.proofs.lemmas.Option.{get_or_from_slice_get}
use Rattle.play_nodes.proofs.PlaceLaws.{element_within}
use Rattle.play_nodes.proofs.Tables.{JoinedOr, joined_or, element}
use Rattle.play_nodes.specs.Numbers.{Ascend, IsNumbered, IsPlaceOf}

-- ONE MORE

-- An element of a list behind which one was put stands in it, or is that one.
abbrev pub PutOr : {A : Type 0} → List A → A → ℕ → A → Type 0
PutOr xs x k y = (slice_get xs k ≡ Some y) ⊎ ((k ≡ length xs) × (y ≡ x))

pub put_or : {A : Type 0} (xs : List A) (x : A) (k : ℕ) (y : A) → slice_get (xs ++ x ∷ []) k ≡ Some y → PutOr xs x k y
put_or {A} xs x k y h = by (joined_or xs (x ∷ []) k y h)
  where
    alone : (n : ℕ) → slice_get (x ∷ []) n ≡ Some y → (n ≡ 0) × (y ≡ x)
    alone zero e = (refl, cc)
    alone (suc n) e = cc

    by : JoinedOr xs (x ∷ []) k y → PutOr xs x k y
    by (inl at) = inl at
    by (inr at) = let q = alone at.0 at.1.1 in inr (omega (arith, at.1.0, q.0), q.1)

-- NUMBERS

less_same : (a b c d : ℕ) → a ≡ c → b ≡ d → a < b → c < d
less_same a b c d x y h = omega (arith, x, y, h)

not_past : (j k n : ℕ) → j ≡ n → k < n → j < k → ⊥
not_past j k n e within h = omega (arith, e, within, h)

not_itself : (j k n : ℕ) → j ≡ n → k ≡ n → j < k → ⊥
not_itself j k n e f h = omega (arith, e, f, h)

module _ {A : Type 0} (number : A → ℕ) (xs : List A) (up : Ascend number xs) where
  -- what has the same number stands at the same place
  pub same_place : (j k : ℕ) (a b : A) → slice_get xs j ≡ Some a → slice_get xs k ≡ Some b → number a ≡ number b → j ≡ k
  same_place j k a b at_j at_k same = grind (arith, up j k a b at_j at_k, up k j b a at_k at_j, same)

  -- they ascend in a list in which what has each number stands where it stood
  pub ascend_same : (ys : List A) → ((k : ℕ) (b : A) → slice_get ys k ≡ Some b → IsNumbered number xs (number b) k) → Ascend number ys
  ascend_same ys was j k a b at_j at_k before =
      let x : IsNumbered number xs (number a) j = was j a at_j in
      let y : IsNumbered number xs (number b) k = was k b at_k in
      less_same (number x.found) (number y.found) (number a) (number b) x.same y.same (up j k x.found y.found x.at y.at before)

  -- they do with one more behind, whose number is above all others
  pub ascend_put : (x : A) → ((k : ℕ) (a : A) → slice_get xs k ≡ Some a → number a < number x) → Ascend number (xs ++ x ∷ [])
  ascend_put x above j k a b at_j at_k before = by (put_or xs x j a at_j) (put_or xs x k b at_k)
    where
      by : PutOr xs x j a → PutOr xs x k b → number a < number b
      by (inl p) (inl q) = up j k a b p q before
      by (inl p) (inr q) = less_same (number a) (number x) (number a) (number b) refl (sym (ap number q.1)) (above j a p)
      by (inr p) (inl q) = absurd (not_past j k (length xs) p.0 (element_within xs k b q) before)
      by (inr p) (inr q) = absurd (not_itself j k (length xs) p.0 q.0 before)

  -- THE SEARCH

  higher : (a b k : ℕ) → a ≤ b → ordering_index (nat_cmp a k) ≤ ordering_index (nat_cmp b k)
  higher a b k le = grind (arith, nat_tests)

  rise : (i j : ℕ) → i ≤ j → (a b : A) → slice_get xs i ≡ Some a → slice_get xs j ≡ Some b → number a ≤ number b
  rise i j le a b at_i at_j = grind (arith, up i j a b at_i at_j, λ (same : i ≡ j). level same)
    where
      level : i ≡ j → number a ≡ number b
      level same = ap number (some (ap (λ (n : ℕ). slice_get xs n) same))
        where
          some : slice_get xs i ≡ slice_get xs j → a ≡ b
          some e = cc

  -- the comparisons with a number rise, as a search by halves asks
  comparisons_rise : (k : ℕ) → IsNonDecreasingBy (λ a. ordering_index (nat_cmp (number a) k)) xs
  comparisons_rise k i j d le within =
      let a = element xs i (below i j (length xs) le within) in
      let b = element xs j within in
      rw (get_or_from_slice_get xs i a.0 d a.1, get_or_from_slice_get xs j b.0 d b.1) (higher (number a.0) (number b.0) k (rise i j le a.0 b.0 a.1 b.1))
    where
      below : (i j n : ℕ) → i ≤ j → j < n → i < n
      below i j n le lt = omega (arith, le, lt)

-- WHAT IT FINDS

module _ {A : Type 0} (number : A → ℕ) (xs : List A) (k : ℕ) where
  -- nothing that has the number stands before the place at which it would, or from there on
  none_there : (i : ℕ) → (IsNonDecreasingBy (λ a. ordering_index (nat_cmp (number a) k)) xs → IsPartitionPoint (λ a. nat_cmp (number a) k ≡ Less) (λ a. nat_cmp (number a) k ≡ Greater) xs i) → Ascend number xs → (place : ℕ) → IsNumbered number xs k place → ⊥
  none_there i parted up place h =
      let here : get_or xs place h.found ≡ h.found = get_or_from_slice_get xs place h.found h.found h.at in
      let point = parted (comparisons_rise number xs up k) in
      elim (cases_lt place i) [
        | inl before ↦ not_less (number h.found) h.same (ranked (number h.found) k Less (sym (ap (λ (a : A). nat_cmp (number a) k) (sym here) ∙ point.0 place h.found (least place) before)))
        | inr from ↦ not_more (number h.found) h.same (ranked (number h.found) k Greater (sym (ap (λ (a : A). nat_cmp (number a) k) (sym here) ∙ point.1 place h.found from (element_within xs place h.found h.at))))
      ]
    where
      least : (n : ℕ) → 0 ≤ n
      least n = omega arith

      not_less : (n : ℕ) → n ≡ k → n < k → ⊥
      not_less n e h = omega (arith, e, h)

      not_more : (n : ℕ) → n ≡ k → k < n → ⊥
      not_more n e h = omega (arith, e, h)

  -- what was found is it, and where nothing was, nothing is
  pub searched : (r : Result ℕ ℕ) → IsSearchInRange r (length xs) → IsBinarySearchResult (λ a. nat_cmp (number a) k) xs r → IsPlaceOf number xs k (result_ok r)
  searched (Ok i) within same =
      let a = element xs i within in
      record { found = a.0; at = a.1; same = ranked (number a.0) k Equal (sym (ap (λ (b : A). nat_cmp (number b) k) (sym (get_or_from_slice_get xs i a.0 a.0 a.1)) ∙ same a.0)) }
  searched (Err i) within parted = λ up place h. none_there i parted up place h
