-- Digits that are read one by one, and numbers that stand once.
use Rattle.std.proofs.Common.{◌≡◌, ◌≢◌, ◌==◌, ℕ, suc, ◌+◌, ◌-◌, ◌*◌, ◌^◌, ◌<◌, ◌≤◌, ◌&&◌, not, nat_lt, Bool, true, false, cond, List, [], ◌∷◌, map, Result, Ok, Err, inl, inr, refl, sym, ap, arith}
use Rattle.std.specs.List.{list_all, list_any, All}
use Rattle.std.proofs.lemmas.Bool.{and_parts, ltb-true}
use Rattle.std.proofs.lemmas.Bool.Decides.{nat_tests, eqb_tells}
use Rattle.std.proofs.lemmas.List.Elements.{All-from_recursion, recursion_from_All}
use Rattle.std.proofs.lemmas.List.Kept.{AllPairs-cons}
use Rattle.hd_base.specs.Lists.{AllDistinct}
use Rattle.hd_base.specs.Numerals.{is_digit, read_on}
use Rattle.hd_base.specs.declared.numbers.NodeId.{NodeId}
use Rattle.script_lang.specs.declared.faults.BadKind.{BadKind}
use Rattle.script_lang.specs.declared.faults.BadKind.TheVariants as kind
use Rattle.script_lang.specs.Numbers.{digits_on, are_distinct, node}

-- a number only grows as digits are read on
read_on-grows : (n : ℕ) (ds : List ℕ) → n ≤ read_on n ds
read_on-grows n [] = omega arith
read_on-grows n (c ∷ cs) = omega (arith, read_on-grows (n * 10 + (c - 48)) cs)

-- the rule that digits keep behind those of n
abbrev kept : ℕ → List ℕ → Result ℕ BadKind
kept n ds = cond (list_all is_digit ds && nat_lt (read_on n ds) (2 ^ 64)) (Ok (read_on n ds)) (Err kind.Number)

refused : {A : Type 0} (a b : Bool) (x y : A) → b ≡ false → cond (a && b) x y ≡ y
refused true b x y e = rw e refl
refused false b x y e = refl

digit_step : (n c : ℕ) (cs : List ℕ) (a b : Bool) → is_digit c ≡ a → nat_lt (n * 10 + (c - 48)) (2 ^ 64) ≡ b → (b ≡ true → digits_on (n * 10 + (c - 48)) cs ≡ kept (n * 10 + (c - 48)) cs) → cond (a && b) (digits_on (n * 10 + (c - 48)) cs) (Err kind.Number) ≡ cond ((a && list_all is_digit cs) && nat_lt (read_on (n * 10 + (c - 48)) cs) (2 ^ 64)) (Ok (read_on (n * 10 + (c - 48)) cs)) (Err kind.Number)
digit_step n c cs true true e f rest = rest refl
digit_step n c cs true false e f rest =
    let far : nat_lt (read_on (n * 10 + (c - 48)) cs) (2 ^ 64) ≡ false = grind (arith, nat_tests, read_on-grows (n * 10 + (c - 48)) cs) in
    sym (refused (list_all is_digit cs) _ _ _ far)
digit_step n c cs false b e f rest = refl

pub digits_on-is : (n : ℕ) (ds : List ℕ) → n < 2 ^ 64 → digits_on n ds ≡ kept n ds
digits_on-is n [] small = let test : nat_lt n (2 ^ 64) ≡ true = grind (arith, nat_tests) in rw test refl
digits_on-is n (c ∷ cs) small =
    digit_step n c cs (is_digit c) (nat_lt (n * 10 + (c - 48)) (2 ^ 64)) refl refl (λ below. digits_on-is (n * 10 + (c - 48)) cs (ltb-true (n * 10 + (c - 48)) (2 ^ 64) below))

-- ---- nodes that stand once

node_number : (a b : ℕ) → node a ≡ node b → a ≡ b
node_number a b e = ap (λ (n : NodeId). n.0) e

present : (x : ℕ) (vs : List ℕ) → list_any (λ y. y == x) vs ≡ true → All (λ n. node x ≢ n) (map node vs) → ⊥
present x [] e all = absurd (let f : false ≡ true = e in cc)
present x (v ∷ vs) e all =
    let each = recursion_from_All (λ n. node x ≢ n) (map node (v ∷ vs)) all in
    elim (eqb_tells v x) [
      | inl same ↦ each.0 (ap node (sym same.1))
      | inr other ↦ present x vs (rw other.0 at e) (All-from_recursion (λ n. node x ≢ n) (map node vs) each.1)
    ]

absent : (x : ℕ) (vs : List ℕ) → list_any (λ y. y == x) vs ≡ false → All (λ n. node x ≢ n) (map node vs)
absent x [] e = All-from_recursion (λ n. node x ≢ n) [] tt
absent x (v ∷ vs) e =
    elim (eqb_tells v x) [
      | inl same ↦ absurd (let f : true ≡ false = rw same.0 at e in cc)
      | inr other ↦ All-from_recursion (λ n. node x ≢ n) (map node (v ∷ vs)) (λ f. other.1 (sym (node_number x v f)), recursion_from_All (λ n. node x ≢ n) (map node vs) (absent x vs (rw other.0 at e)))
    ]

pub unless : (b : Bool) → (b ≡ true → ⊥) → b ≡ false
unless true e = absurd (e refl)
unless false e = refl

not_is : (b : Bool) → not b ≡ true → b ≡ false
not_is true e = cc
not_is false e = refl

pub distinct_nodes : (vs : List ℕ) → are_distinct vs ≡ true → AllDistinct (map node vs)
distinct_nodes [] e = λ i j d h k. absurd (omega arith)
distinct_nodes (v ∷ vs) e =
    let both = and_parts (not (list_any (λ y. y == v) vs)) (are_distinct vs) e in
    AllPairs-cons (λ a b. a ≢ b) (node v) (map node vs) (absent v vs (not_is (list_any (λ y. y == v) vs) both.0)) (distinct_nodes vs both.1)

pub distinct_numbers : (vs : List ℕ) → AllDistinct (map node vs) → are_distinct vs ≡ true
distinct_numbers [] pairs = refl
distinct_numbers (v ∷ vs) pairs =
    let first : list_any (λ y. y == v) vs ≡ false = unless (list_any (λ y. y == v) vs) (λ e. present v vs e (λ k d h. pairs 0 (suc k) d (omega arith) (omega arith))) in
    rw first (distinct_numbers vs (λ i j d h k. pairs (suc i) (suc j) d (omega arith) (omega arith)))
