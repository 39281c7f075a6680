-- The blocks of lines that fit are distinct, and those of the lines that create one are among them.
use Rattle.std.proofs.Common.{zero, suc, ◌≡◌, ◌==◌, ℕ, ◌&&◌, ◌||◌, not, nat_lt, is_none, Bool, true, false, cond, List, [], ◌∷◌, slice_get, Option, Some, None, inl, inr, refl, sym, ◌∙◌, ap, subst}
use Rattle.std.proofs.lemmas.Bool.{and_parts, eqb-true, eq-eqb}
use Rattle.std.proofs.lemmas.Bool.Decides.{eqb_tells}
use Rattle.hd_base.specs.declared.numbers.BlockId.{BlockId}
use Rattle.hd_base.specs.declared.numbers.NodeId.{NodeId}
use Rattle.script_lang.specs.declared.instructions.Instruction.{Instruction}
use Rattle.script_lang.specs.declared.instructions.Instruction.TheVariants as says
use Rattle.script_lang.specs.declared.instructions.ScriptLine.{ScriptLine}
use Rattle.script_lang.specs.Fits.{Before, fit_rules, after, is_created, most_blocks}
use Rattle.script_lang.specs.Rules.{AllKept}
use Rattle.play_laws.specs.World.Safe.{Has}
use Rattle.play_laws.specs.PlayModel.Lines.{placed, with_block, blocks_of}
use Rattle.node_opening.specs.Shelves.{AreDistinct}
use Rattle.play_scripts.specs.Fitting.{LinesFit}
use Rattle.play_scripts.specs.Blocks.{numbers, AreBlocks}

-- NUMBERS

has : ℕ → List ℕ → Bool
has b [] = false
has b (n ∷ ns) = (n == b) || has b ns

-- no number stands twice
abbrev Apart : List ℕ → Type 0
Apart [] = Unit {0}
Apart (n ∷ ns) = (has n ns ≡ false) × Apart ns

or_swap : (p q r : Bool) → (p || (q || r)) ≡ (q || (p || r))
or_swap true true r = refl
or_swap true false r = refl
or_swap false q r = refl

placed_has : (x b : ℕ) (ns : List ℕ) → has x (placed b ns) ≡ ((b == x) || has x ns)
unfolding has
placed_has x b [] = refl
placed_has x b (n ∷ ns) = at (nat_lt b n) (placed_has x b ns) where
  at : (t : Bool) → has x (placed b ns) ≡ ((b == x) || has x ns) → has x (cond t (b ∷ (n ∷ ns)) (n ∷ placed b ns)) ≡ ((b == x) || ((n == x) || has x ns))
  at true more = refl
  at false more = ap (λ (q : Bool). (n == x) || q) more ∙ or_swap (n == x) (b == x) (has x ns)

neither : (p q : Bool) → (p || q) ≡ false → (p ≡ false) × (q ≡ false)
neither true q e = absurd (let g : true ≡ false = e in cc)
neither false q e = (refl, e)

both_false : (p q : Bool) → p ≡ false → q ≡ false → (p || q) ≡ false
both_false p q e f = rw e f

-- a number isn't another that isn't it
turned : (b n : ℕ) → (n == b) ≡ false → (b == n) ≡ false
turned b n e =
    elim (eqb_tells b n) [
      | inl same ↦ absurd (let f : (n == b) ≡ true = eq-eqb n b (sym same.1) in let g : true ≡ false = sym f ∙ e in cc)
      | inr other ↦ other.0
    ]

placed_apart : (b : ℕ) (ns : List ℕ) → has b ns ≡ false → Apart ns → Apart (placed b ns)
unfolding has
placed_apart b [] new apart = (refl, tt)
placed_apart b (n ∷ ns) new apart = at (nat_lt b n) (placed_apart b ns (neither (n == b) (has b ns) new).1 apart.1) where
  at : (t : Bool) → Apart (placed b ns) → Apart (cond t (b ∷ (n ∷ ns)) (n ∷ placed b ns))
  at true more = (new, apart)
  at false more = (placed_has n b ns ∙ both_false (b == n) (has n ns) (turned b n (neither (n == b) (has b ns) new).0) apart.0, more)

-- LINES THAT FIT

none_passes : {A : Type 0} (o : Option A) (test : Option A → Bool) → test None ≡ false → is_none o ≡ true → test o ≡ true → ⊥
none_passes None test bars none e = let g : true ≡ false = sym e ∙ bars in absurd (true_false g) where
  true_false : true ≡ false → ⊥
  true_false g = cc
none_passes (Some a) test bars none e = absurd (let g : false ≡ true = none in cc)

-- a block that was created stays so
stays_created : (before : Before) (i : Instruction) (b : ℕ) → AllKept (fit_rules before i) → is_created (before.stage b) ≡ true → is_created ((after before i).stage b) ≡ true
stays_created before (says.Sums c rule) b kept e =
    elim (eqb_tells b c.0) [
      | inl same ↦ absurd (none_passes (before.stage c.0) is_created refl kept.0 (sym (ap (λ (n : ℕ). is_created (before.stage n)) same.1) ∙ e))
      | inr other ↦ rw other.0 e
    ]
stays_created before (says.Create c members) b kept e =
    elim (eqb_tells b c.0) [
      | inl same ↦ rw same.0 refl
      | inr other ↦ rw other.0 e
    ]
stays_created before (says.Append c members) b kept e =
    elim (eqb_tells b c.0) [
      | inl same ↦ rw same.0 refl
      | inr other ↦ rw other.0 e
    ]
stays_created before (says.Close c) b kept e =
    elim (eqb_tells b c.0) [
      | inl same ↦ rw same.0 refl
      | inr other ↦ rw other.0 e
    ]
stays_created before _ b kept e = e

-- a line creates another block
creates_other : (before : Before) (c b : ℕ) → (not (is_created (before.stage c)) && nat_lt before.created most_blocks) ≡ true → is_created (before.stage b) ≡ true → (c == b) ≡ false
creates_other before c b kept e =
    elim (eqb_tells c b) [
      | inl same ↦
          let new : not (is_created (before.stage c)) ≡ true = (and_parts (not (is_created (before.stage c))) (nat_lt before.created most_blocks) kept).0 in
          let old : not (is_created (before.stage c)) ≡ false = ap (λ (n : ℕ). not (is_created (before.stage n))) same.1 ∙ ap not e in
          absurd (let g : true ≡ false = sym new ∙ old in cc)
      | inr other ↦ other.0
    ]

not_placed : (before : Before) (i : Instruction) (b : ℕ) (ns : List ℕ) → AllKept (fit_rules before i) → is_created (before.stage b) ≡ true → has b ns ≡ false → has b (with_block i ns) ≡ false
not_placed before (says.Create c members) b ns kept e new = placed_has b c.0 ns ∙ both_false (c.0 == b) (has b ns) (creates_other before c.0 b kept.0 e) new
not_placed before _ b ns kept e new = new

-- what was created before is created by no line
not_again : (before : Before) (lines : List ScriptLine) (b : ℕ) → LinesFit before lines → is_created (before.stage b) ≡ true → has b (blocks_of lines) ≡ false
unfolding has
not_again before [] b fit e = refl
not_again before (l ∷ lines) b fit e =
    not_placed before l.instruction b (blocks_of lines) fit.0.kept e (not_again (after before l.instruction) lines b fit.1 (stays_created before l.instruction b fit.0.kept e))

just_created : (before : Before) (c : BlockId) (members : List NodeId) → is_created ((after before (says.Create c members)).stage c.0) ≡ true
just_created before c members = let same : (c.0 == c.0) ≡ true = eq-eqb c.0 c.0 refl in rw same refl

one_apart : (before : Before) (i : Instruction) (lines : List ScriptLine) → LinesFit (after before i) lines → Apart (blocks_of lines) → Apart (with_block i (blocks_of lines))
one_apart before (says.Create c members) lines fit apart = placed_apart c.0 (blocks_of lines) (not_again (after before (says.Create c members)) lines c.0 fit (just_created before c members)) apart
one_apart before _ lines fit apart = apart

all_apart : (before : Before) (lines : List ScriptLine) → LinesFit before lines → Apart (blocks_of lines)
all_apart before [] fit = tt
all_apart before (l ∷ lines) fit = one_apart before l.instruction lines fit.1 (all_apart (after before l.instruction) lines fit.1)

-- BLOCKS

absent : (xs : List BlockId) (n k : ℕ) (b : BlockId) → has n (numbers xs) ≡ false → slice_get xs k ≡ Some b → b.0 ≡ n → ⊥
unfolding has
absent [] n k b e at same = absurd (none_some at) where
  none_some : ◌≡◌ {A = Option BlockId} None (Some b) → ⊥
  none_some f = cc
absent (x ∷ xs) n zero b e at same =
    let f : x ≡ b = cc in
    let g : (x.0 == n) ≡ true = eq-eqb x.0 n (ap (λ (a : BlockId). a.0) f ∙ same) in
    absurd (let h : true ≡ false = sym g ∙ (neither (x.0 == n) (has n (numbers xs)) e).0 in cc)
absent (x ∷ xs) n (suc k) b e at same = absent xs n k b (neither (x.0 == n) (has n (numbers xs)) e).1 at same

distinct_so : (xs : List BlockId) → Apart (numbers xs) → AreDistinct xs
distinct_so [] apart j k a b at at' same = absurd (let f : ◌≡◌ {A = Option BlockId} None (Some a) = at in cc)
distinct_so (x ∷ xs) apart zero zero a b at at' same = refl
distinct_so (x ∷ xs) apart zero (suc k) a b at at' same =
    let f : x ≡ a = cc in
    absurd (absent xs x.0 k b apart.0 at' (sym same ∙ ap (λ (y : BlockId). y.0) (sym f)))
distinct_so (x ∷ xs) apart (suc j) zero a b at at' same =
    let f : x ≡ b = cc in
    absurd (absent xs x.0 j a apart.0 at (same ∙ ap (λ (y : BlockId). y.0) (sym f)))
distinct_so (x ∷ xs) apart (suc j) (suc k) a b at at' same = ap suc (distinct_so xs apart.1 j k a b at at' same)

-- BLOCKS THAT LINES CREATE

either_left : (p q : Bool) → p ≡ true → (p || q) ≡ true
either_left p q e = rw e refl

either_right : (p q : Bool) → q ≡ true → (p || q) ≡ true
either_right true q e = refl
either_right false q e = e

still_has : (i : Instruction) (b : ℕ) (ns : List ℕ) → has b ns ≡ true → has b (with_block i ns) ≡ true
still_has (says.Create c members) b ns e = placed_has b c.0 ns ∙ either_right (c.0 == b) (has b ns) e
still_has _ b ns e = e

created_has : (lines : List ScriptLine) (k : ℕ) (l : ScriptLine) (b : BlockId) (members : List NodeId) → slice_get lines k ≡ Some l → l.instruction ≡ says.Create b members → has b.0 (blocks_of lines) ≡ true
created_has [] k l b members at e = absurd (let f : ◌≡◌ {A = Option ScriptLine} None (Some l) = at in cc)
created_has (x ∷ lines) zero l b members at e =
    let f : x ≡ l = cc in
    let g : x.instruction ≡ says.Create b members = ap (λ (y : ScriptLine). y.instruction) f ∙ e in
    ap (λ i. has b.0 (with_block i (blocks_of lines))) g ∙ (placed_has b.0 b.0 (blocks_of lines) ∙ either_left (b.0 == b.0) (has b.0 (blocks_of lines)) (eq-eqb b.0 b.0 refl))
created_has (x ∷ lines) (suc k) l b members at e = still_has x.instruction b.0 (blocks_of lines) (created_has lines k l b members at e)

named : ℕ → BlockId
named n = record { 0 = n }

same_block : (x b : BlockId) → x.0 ≡ b.0 → x ≡ b
unfolding named
same_block x b e = ap named e

further : (x : BlockId) (xs : List BlockId) (b : BlockId) → Has xs b → Has (x ∷ xs) b
further x xs b h = record { place = suc h.place; there = h.there }

has_block : (xs : List BlockId) (b : BlockId) → has b.0 (numbers xs) ≡ true → Has xs b
unfolding has
has_block [] b e = absurd (let f : false ≡ true = e in cc)
has_block (x ∷ xs) b e = at (x.0 == b.0) refl e (has_block xs b) where
  at : (t : Bool) → (x.0 == b.0) ≡ t → (t || has b.0 (numbers xs)) ≡ true → (has b.0 (numbers xs) ≡ true → Has xs b) → Has (x ∷ xs) b
  at true f e more = record { place = zero; there = ap Some (same_block x b (eqb-true x.0 b.0 f)) }
  at false f e more = further x xs b (more e)

-- The blocks are those of the lines.
pub are_blocks : (lines : List ScriptLine) (blocks : List BlockId) → numbers blocks ≡ blocks_of lines → AreBlocks lines blocks
are_blocks lines blocks e = record {
  are = e;
  distinct = λ before fit. distinct_so blocks (subst Apart (sym e) (all_apart before lines fit));
  all = λ k l b members at is. has_block blocks b (ap (has b.0) e ∙ created_has lines k l b members at is);
}
