-- The blocks of a shelf's files.
use Rattle.std.proofs.Common.{◌≡◌, ℕ, zero, suc, ◌+◌, ◌<◌, ◌≤◌, eqb, List, [], ◌∷◌, ◌++◌, length, get_or, take, Contains, sym, ap, subst, ◌∙◌, arith, append_assoc, append-nil}
use Rattle.std.proofs.lemmas.List.{take_all}
use Rattle.hd_base.specs.Blocks.{block_of}
use Rattle.std.specs.Prelude.{IsPermutation, IsSorted}
use Rattle.std.specs.Ordering.{nat_cmp}
use Rattle.std.specs.List.{dedup}
use Rattle.std.specs.List.Sorted.{IsStrictlyIncreasing}
use Rattle.std.proofs.lemmas.List.Sorted.{Contains-permutation, IsPermutation-sym}
use Rattle.std.proofs.lemmas.List.Kept.{Contains-dedup_nat, Contains-from_dedup}
use Rattle.std.proofs.lemmas.Map.Keys.{IsStrictlyIncreasing-dedup}
use Rattle.restart_scan.specs.Shelves.{number_list, numbers_in, AreNumbers}

numbers_more : (names : List (List ℕ)) (i : ℕ) (name : List ℕ) → i < length names → name ≡ get_or names i name → numbers_in (take (i + 1) names) ≡ numbers_in (take i names) ++ number_list (block_of name)
numbers_more [] i name within is = absurd (omega arith)
numbers_more (x ∷ names) zero name within is = append-nil (number_list (block_of x)) ∙ ap (λ n. number_list (block_of n)) (sym is)
numbers_more (x ∷ names) (suc i) name within is =
    let next : suc i + 1 ≡ suc (i + 1) = omega arith in
    ap (λ n. numbers_in (take n (x ∷ names))) next
    ∙ (ap (λ l. number_list (block_of x) ++ l) (numbers_more names i name (omega (arith, within)) is)
    ∙ sym (append_assoc (number_list (block_of x)) (numbers_in (take i names)) (number_list (block_of name))))

pub numbers_next : (old new : List ℕ) (names : List (List ℕ)) (i : ℕ) (name : List ℕ) → old ≡ numbers_in (take i names) → i < length names → name ≡ get_or names i name → new ≡ old ++ number_list (block_of name)
    → new ≡ numbers_in (take (i + 1) names)
numbers_next old new names i name so_far within is more = more ∙ (ap (λ l. l ++ number_list (block_of name)) so_far ∙ sym (numbers_more names i name within is))

pub numbers_end : (old : List ℕ) (names : List (List ℕ)) (i : ℕ) → old ≡ numbers_in (take i names) → length names ≤ i → old ≡ numbers_in names
numbers_end old names i so_far all = so_far ∙ ap numbers_in (take_all i names all)

back_permutation : (xs ys : List ℕ) (b : ℕ) → IsPermutation xs ys → Contains ys b → Contains xs b
back_permutation xs ys b p at = Contains-permutation ys xs b (IsPermutation-sym xs ys p) at

pub numbers_are : (names : List (List ℕ)) (numbers sorted blocks : List ℕ) → numbers ≡ numbers_in names → IsPermutation numbers sorted → IsSorted nat_cmp sorted → blocks ≡ dedup eqb sorted → AreNumbers names blocks
numbers_are names numbers sorted blocks is permuted ordered once = record {
  ascending = subst IsStrictlyIncreasing (sym once) (IsStrictlyIncreasing-dedup sorted ordered);
  within = λ b at. subst (λ l. Contains l b) is (back_permutation numbers sorted b permuted (Contains-from_dedup eqb sorted b (subst (λ l. Contains l b) once at)));
  all = λ b at. subst (λ l. Contains l b) (sym once) (Contains-dedup_nat sorted b (Contains-permutation numbers sorted b permuted (subst (λ l. Contains l b) (sym is) at)));
}
