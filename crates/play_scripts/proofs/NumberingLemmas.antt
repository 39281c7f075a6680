-- Lines whose numbers ascend.
use Rattle.std.proofs.Common.{zero, suc, ◌≡◌, ◌≤◌, ℕ, ◌+◌, List, [], ◌∷◌, ◌++◌, length, slice_get, Option, Some, inl, inr, refl, sym, ap, subst, ◌∙◌, arith}
use Rattle.script_lang.specs.declared.instructions.ScriptLine.{ScriptLine}
use Rattle.script_lang.specs.Fits.{Before, after}
use Rattle.script_lang.specs.Grammar.{AreGood}
use Rattle.play_scripts.specs.Numbering.{LinesAscend, NumbersDiffer}

-- ASCENT

-- They ascend from a lower number on too.
pub ascend_from : (low high : ℕ) (lines : List ScriptLine) → low ≤ high → LinesAscend high lines → LinesAscend low lines
ascend_from low high [] le h = tt
ascend_from low high (l ∷ lines) le h = (omega (arith, le, h.0), h.1)

-- The lines of a script are numbered as its text's are.
pub good_ascend : (shelves number : ℕ) (before : Before) (lines : List (List ℕ)) (said : List ScriptLine) → AreGood shelves number before lines said → LinesAscend number said
good_ascend shelves number before [] said g = subst (LinesAscend number) (sym g.0) tt
good_ascend shelves number before (line ∷ lines) said g =
    elim g [
      | inl silent ↦ ascend_from number (number + 1) said (omega arith) (good_ascend shelves (number + 1) before lines said silent.1)
      | inr one ↦ subst (LinesAscend number) (sym one.4) (omega arith, good_ascend shelves (number + 1) (after before one.0) lines one.1 one.5)
    ]

-- COUNTS

-- these lines have the numbers from this one on, one after the other
abbrev pub Counted : ℕ → List ScriptLine → Type 0
Counted n [] = Unit {0}
Counted n (l ∷ lines) = (l.number ≡ n) × Counted (n + 1) lines

pub counted_more : (n : ℕ) (lines : List ScriptLine) (l : ScriptLine) → Counted n lines → l.number ≡ n + length lines → Counted n (lines ++ l ∷ [])
counted_more n [] l c e = (omega (arith, e), tt)
counted_more n (x ∷ lines) l c e = (c.0, counted_more (n + 1) lines l c.1 (omega (arith, e)))

pub counted_ascend : (n : ℕ) (lines : List ScriptLine) → Counted n lines → LinesAscend n lines
counted_ascend n [] c = tt
counted_ascend n (l ∷ lines) c = (omega (arith, c.0), subst (λ (m : ℕ). LinesAscend (m + 1) lines) (sym c.0) (counted_ascend (n + 1) lines c.1))

-- DIFFERENCE

same_line : (a b : ScriptLine) → ◌≡◌ {A = Option ScriptLine} (Some a) (Some b) → a ≡ b
same_line a b e = cc

-- none of them is below the least
at_least : (least : ℕ) (lines : List ScriptLine) (k : ℕ) (l : ScriptLine) → LinesAscend least lines → slice_get lines k ≡ Some l → least ≤ l.number
at_least least [] k l h at = cc
at_least least (x ∷ lines) zero l h at = subst (λ (y : ScriptLine). least ≤ y.number) (same_line x l at) h.0
at_least least (x ∷ lines) (suc k) l h at =
    let more = at_least (x.number + 1) lines k l h.1 at in
    omega (arith, h.0, more)

-- the first of them is below the others
first_below : (least : ℕ) (x a b : ScriptLine) (lines : List ScriptLine) (k : ℕ) → LinesAscend least (x ∷ lines) → x ≡ a → slice_get lines k ≡ Some b → a.number ≡ b.number → ⊥
first_below least x a b lines k h is at e =
    let more = at_least (x.number + 1) lines k b h.1 at in
    let same : x.number ≡ b.number = ap (λ (y : ScriptLine). y.number) is ∙ e in
    omega (arith, more, same)

-- No two of them have one number.
pub ascending_differ : (least : ℕ) (lines : List ScriptLine) → LinesAscend least lines → NumbersDiffer lines
ascending_differ least [] h j k a b p q e = cc
ascending_differ least (x ∷ lines) h zero zero a b p q e = refl
ascending_differ least (x ∷ lines) h zero (suc k) a b p q e = absurd (first_below least x a b lines k h (same_line x a p) q e)
ascending_differ least (x ∷ lines) h (suc j) zero a b p q e = absurd (first_below least x b a lines j h (same_line x b q) p (sym e))
ascending_differ least (x ∷ lines) h (suc j) (suc k) a b p q e = ap suc (ascending_differ (x.number + 1) lines h.1 j k a b p q e)
