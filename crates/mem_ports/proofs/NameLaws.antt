-- Laws of lists of names: their order, and what stands in them.
use Rattle.std.proofs.Common.{◌≡◌, ◌==◌, ◌||◌, ℕ, ◌<◌, Bool, true, false, List, [], ◌∷◌, ◌++◌, Result, Ok, Err, Vec, Global, IfOk, is_some, zero, suc, length, get_or, rules, arith, refl, ap, sym, ◌∙◌, Contains, AllPairs, ◌↔◌, Less}
use Rattle.std.specs.Ordering.{nat_cmp, is_lt, eq_by_cmp}
use Rattle.std.specs.Cmp.{IsTotalOrder, IsEquivalence}
use Rattle.std.specs.Cmp.Rules.{comparing}
use Rattle.std.specs.Cmp.Lexicographic.{slice_cmp, pointwise}
use Rattle.std.specs.List.Sorted.{IsStrictlySortedBy}
use Rattle.std.specs.Str.{bytes_eq}
use Rattle.std.proofs.lemmas.Grind.{common_steps}
use Rattle.std.proofs.lemmas.Slice.Eq.{bytes_eq-Decides}
use Rattle.std.proofs.lemmas.List.Elements.{All-from_recursion, All-weaker}
use Rattle.std.proofs.lemmas.List.Kept.{AllPairs-cons}
use Rattle.hd_base.proofs.FileLaws.{bytes_eq-same}
use Rattle.hd_base.specs.FileMaps.{FileMap, AreNamesOf}
use Rattle.mem_ports.specs.Apart.{is_among}

-- Names have a total order, and are equal where it says so.
pub total : IsTotalOrder (slice_cmp nat_cmp)
total = search (comparing, rules)

pub equivalence : IsEquivalence (pointwise ◌==◌)
equivalence = search (comparing, rules)

pub ties : (x y : List ℕ) → pointwise ◌==◌ x y ≡ eq_by_cmp (slice_cmp nat_cmp) x y
ties = search (comparing, rules)

pub same : (x y : List ℕ) → pointwise ◌==◌ x y ≡ true → x ≡ y
same x y e = grind (arith, common_steps, bytes_eq-Decides x y)

-- Strictly sorted names stand in ascending order.
pub AllPairs-from_sorted : (xs : List (List ℕ)) → IsStrictlySortedBy (slice_cmp nat_cmp) xs → AllPairs (λ a b. is_lt (slice_cmp nat_cmp a b) ≡ true) xs
unfolding IsStrictlySortedBy
AllPairs-from_sorted [] sorted = λ i j d before within. absurd (omega (arith, before, within))
AllPairs-from_sorted (x ∷ xs) sorted =
    AllPairs-cons (λ a b. is_lt (slice_cmp nat_cmp a b) ≡ true) x xs
    (All-weaker (λ y. slice_cmp nat_cmp x y ≡ Less) (λ y. is_lt (slice_cmp nat_cmp x y) ≡ true) (λ y e. ap is_lt e) xs (All-from_recursion _ xs sorted.0))
    (AllPairs-from_sorted xs sorted.1)

-- What a list contains is among its elements.
among_from_contains : (xs : List (List ℕ)) (q : List ℕ) (k : ℕ) → k < length xs → get_or xs k q ≡ q → is_among bytes_eq xs q ≡ true
among_from_contains [] q k within is = absurd (omega (arith, within))
among_from_contains (x ∷ xs) q zero within is = rw is (rw (bytes_eq-same q) refl)
among_from_contains (x ∷ xs) q (suc k) within is = let rest = among_from_contains xs q k (omega (arith, within)) is in grind (arith, common_steps)

contains_from_among : (xs : List (List ℕ)) (q : List ℕ) → is_among bytes_eq xs q ≡ true → Contains xs q
contains_from_among [] q among = absurd (cc among)
contains_from_among (x ∷ xs) q among =
    elim (bytes_eq x q) as (λ b. bytes_eq x q ≡ b → (b || is_among bytes_eq xs q) ≡ true → Contains (x ∷ xs) q) [
      | true ↦ λ here there. (0, omega arith, same x q here)
      | false ↦ λ here there. let rest = contains_from_among xs q there in (suc rest.0, omega (arith, rest.1), rest.2)
    ] refl among

pub is_among-append : {X : Type 0} (eq : X → X → Bool) (xs ys : List X) (q : X) → is_among eq (xs ++ ys) q ≡ (is_among eq xs q || is_among eq ys q)
is_among-append eq [] ys q = refl
is_among-append eq (x ∷ xs) ys q = let rest = is_among-append eq xs ys q in grind (arith, common_steps)

-- A list in order that holds the names at which a map has a file.
pub names_by : {E : Type 0} (r : Result (Vec (List ℕ) Global) E) (names : List (List ℕ)) (m : FileMap) → IfOk r (λ v. (name : List ℕ) → Contains v.items name ↔ Contains names name) → IfOk r (λ v. AllPairs (λ a b. is_lt (slice_cmp nat_cmp a b) ≡ true) v.items) → ((name : List ℕ) → is_among bytes_eq names name ≡ is_some (m name)) → IfOk r (λ v. AreNamesOf m v.items)
names_by (Ok v) names m each ascending is_shown = record {
  each = λ name. (
    λ there. let at = (each name).0 there in sym (is_shown name) ∙ among_from_contains names name at.0 at.1 at.2,
    λ some. (each name).1 (contains_from_among names name (is_shown name ∙ some)),
  );
  ascending = ascending;
}
names_by (Err e) names m each ascending is_shown = tt
