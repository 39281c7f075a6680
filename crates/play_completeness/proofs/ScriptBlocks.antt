-- A block that a script has commands of is made by one of its lines.
use Rattle.std.proofs.Common.{◌≡◌, ℕ, zero, suc, Bool, true, false, List, [], ◌∷◌, ◌++◌, slice_get, Some, refl, sym, ◌∙◌, ap, subst, arith, eqb-true, ◌⊎◌, inl, inr}
use Rattle.std.specs.Prelude.{◌==◌, ◌||◌, nat_lt, if◌then◌else◌}
use Rattle.std.proofs.lemmas.Bool.{false≢true}
use Rattle.std.proofs.lemmas.Bool.Decides.{nat_tests}
use Rattle.hd_base.specs.declared.numbers.BlockId.{BlockId}
use Rattle.script_lang.specs.declared.instructions.Instruction.{Instruction}
use Rattle.script_lang.specs.declared.instructions.Instruction.TheVariants as says
use Rattle.script_lang.specs.declared.instructions.ScriptLine.{ScriptLine}
use Rattle.script_lang.specs.Fits.{Before, is_open, is_closed, is_created, after}
use Rattle.writer_core.specs.declared.commands.Command.{Command}
use Rattle.writer_core.specs.declared.commands.Command.TheVariants as command
use Rattle.world.specs.Safe.{Has}
use Rattle.world_laws.proofs.FactTables.{if-each}
use Rattle.play_model.specs.Lines.{placed, blocks_of}
use Rattle.play_scripts.specs.Fitting.{LineFits, LinesFit, begun}
use Rattle.play_completeness.specs.Blocks.{CommandsAreOfBlocks}
use Rattle.play_completeness.specs.Complete.{for_block, line_commands, commands_of}

-- BLOCKS IN THEIR ORDER

behind : (c : ℕ) (xs : List ℕ) (b : ℕ) → Has xs b → Has (c ∷ xs) b
behind c xs b h = record { place = suc h.place; there = h.there }

placed-own : (b : ℕ) (xs : List ℕ) → Has (placed b xs) b
placed-own b [] = record { place = 0; there = refl }
placed-own b (c ∷ xs) =
    if-each (λ (ys : List ℕ). Has ys b) (nat_lt b c) (b ∷ (c ∷ xs)) (c ∷ placed b xs) (λ _. record { place = 0; there = refl }) (λ _. behind c (placed b xs) b (placed-own b xs))

placed-other : (a b : ℕ) (xs : List ℕ) → Has xs b → Has (placed a xs) b
placed-other a b [] h = behind a [] b h
placed-other a b (c ∷ xs) h =
    if-each (λ (ys : List ℕ). Has ys b) (nat_lt a c) (a ∷ (c ∷ xs)) (c ∷ placed a xs) (λ _. behind a (c ∷ xs) b h) (λ _. go (λ k. placed-other a b xs k) h.place h.there)
  where
    go : (Has xs b → Has (placed a xs) b) → (i : ℕ) → slice_get (c ∷ xs) i ≡ Some b → Has (c ∷ placed a xs) b
    go later zero at = record { place = 0; there = at }
    go later (suc i) at = behind c (placed a xs) b (later (record { place = i; there = at }))

-- STAGES

-- a block of which a line tells that it was created
abbrev made : Before → ℕ → Bool
made before n = is_created (before.stage n) || (is_open (before.stage n) || is_closed (before.stage n))

open-made : (before : Before) (n : ℕ) → is_open (before.stage n) ≡ true → made before n ≡ true
open-made before n e = by (is_created (before.stage n)) (is_closed (before.stage n))
  where
    by : (x z : Bool) → (x || (is_open (before.stage n) || z)) ≡ true
    by true z = refl
    by false z = rw e refl

closed-made : (before : Before) (n : ℕ) → is_closed (before.stage n) ≡ true → made before n ≡ true
closed-made before n e = by (is_created (before.stage n)) (is_open (before.stage n))
  where
    by : (x y : Bool) → (x || (y || is_closed (before.stage n))) ≡ true
    by true y = refl
    by false true = refl
    by false false = e

turned : (a b : ℕ) → (a == b) ≡ false → (b == a) ≡ false
turned a b e = grind (arith, nat_tests, e)

module _ (b : ℕ) where
  -- a block that has commands among these lines is made there
  abbrev Known : List ScriptLine → Type 0
  Known lines = Has (blocks_of lines) b ⊎ (commands_of b lines ≡ [])

  -- it wasn't created yet
  abbrev New : Before → Type 0
  New before = made before b ≡ false

  -- a line of another block, or without a command
  none-for : (at : BlockId) (c : Command) → (at.0 == b) ≡ false → for_block b at c ≡ []
  none-for at c e = ap (λ (q : Bool). if q then c ∷ [] else []) e

  -- where the block's stage stays
  still-new : (before next : Before) → next.stage b ≡ before.stage b → New before → New next
  still-new before next same new = ap (λ s. is_created s || (is_open s || is_closed s)) same ∙ new

  passes : (l : ScriptLine) (lines : List ScriptLine) → line_commands b l.instruction ≡ [] → (Has (blocks_of lines) b → Has (blocks_of (l ∷ lines)) b) → Known lines → Known (l ∷ lines)
  passes l lines none made (inl h) = inl (made h)
  passes l lines none made (inr e) = inr (ap (λ (cs : List Command). cs ++ commands_of b lines) none ∙ e)

  -- a command of a block that must have been created
  commands : (l : ScriptLine) (lines : List ScriptLine) (at : BlockId) (c : Command) → line_commands b l.instruction ≡ for_block b at c → (Has (blocks_of lines) b → Has (blocks_of (l ∷ lines)) b) → (at.0 ≡ b → ⊥) → ((at.0 == b) ≡ false → Known lines) → Known (l ∷ lines)
  commands l lines at c is made apart rest = go (at.0 == b) refl
    where
      go : (q : Bool) → (at.0 == b) ≡ q → Known (l ∷ lines)
      go false e = passes l lines (is ∙ none-for at c e) made (rest e)
      go true e = absurd (apart (eqb-true at.0 b e))

  not-made : (before : Before) (at : BlockId) → New before → made before at.0 ≡ true → at.0 ≡ b → ⊥
  not-made before at new is same = false≢true (sym new ∙ (ap (made before) (sym same) ∙ is))

  line : (before : Before) (number : ℕ) (i : Instruction) (lines : List ScriptLine) → LineFits before i → New before → (New (after before i) → Known lines) → Known (record { number = number; instruction = i } ∷ lines)
  line before number (says.Create at members) lines fits new rest = go (at.0 == b) refl
    where
      go : (q : Bool) → (at.0 == b) ≡ q → Known (record { number = number; instruction = says.Create at members } ∷ lines)
      go true e = inl (subst (λ (n : ℕ). Has (placed at.0 (blocks_of lines)) n) (eqb-true at.0 b e) (placed-own at.0 (blocks_of lines)))
      go false e =
          passes (record { number = number; instruction = says.Create at members }) lines (none-for at (command.Create members) e) (λ h. placed-other at.0 b (blocks_of lines) h)
          (rest (still-new before (after before (says.Create at members)) (let apart : (b == at.0) ≡ false = turned at.0 b e in rw apart refl) new))
  line before number (says.Append at members) lines fits new rest =
      commands (record { number = number; instruction = says.Append at members }) lines at (command.Append members) refl (λ h. h) (not-made before at new (closed-made before at.0 fits.kept.0)) (λ e. rest (still-new before (after before (says.Append at members)) (let apart : (b == at.0) ≡ false = turned at.0 b e in rw apart refl) new))
  line before number (says.Write at bytes) lines fits new rest =
      commands (record { number = number; instruction = says.Write at bytes }) lines at (command.Write bytes) refl (λ h. h) (not-made before at new (open-made before at.0 fits.kept.0)) (λ e. rest new)
  line before number (says.Fill at count) lines fits new rest =
      commands (record { number = number; instruction = says.Fill at count }) lines at (command.Fill count) refl (λ h. h) (not-made before at new (open-made before at.0 fits.kept.0)) (λ e. rest new)
  line before number (says.Hflush at) lines fits new rest =
      commands (record { number = number; instruction = says.Hflush at }) lines at command.Hflush refl (λ h. h) (not-made before at new (open-made before at.0 fits.kept.0)) (λ e. rest new)
  line before number (says.Hsync at) lines fits new rest =
      commands (record { number = number; instruction = says.Hsync at }) lines at command.Hsync refl (λ h. h) (not-made before at new (open-made before at.0 fits.kept.0)) (λ e. rest new)
  line before number (says.Close at) lines fits new rest =
      commands (record { number = number; instruction = says.Close at }) lines at command.Close refl (λ h. h) (not-made before at new (open-made before at.0 fits.kept.0)) (λ e. rest (still-new before (after before (says.Close at)) (let apart : (b == at.0) ≡ false = turned at.0 b e in rw apart refl) new))
  line before number (says.Sums at rule) lines fits new rest = passes (record { number = number; instruction = says.Sums at rule }) lines refl (λ h. h) (rest (go (b == at.0) refl))
    where
      go : (q : Bool) → (b == at.0) ≡ q → New (after before (says.Sums at rule))
      go true e = rw e refl
      go false e = still-new before (after before (says.Sums at rule)) (rw e refl) new
  line before number (says.Nodes count) lines fits new rest = passes (record { number = number; instruction = says.Nodes count }) lines refl (λ h. h) (rest new)
  line before number (says.Seed seed) lines fits new rest = passes (record { number = number; instruction = says.Seed seed }) lines refl (λ h. h) (rest new)
  line before number (says.Read at node offset count) lines fits new rest = passes (record { number = number; instruction = says.Read at node offset count }) lines refl (λ h. h) (rest new)
  line before number (says.Recover at node members) lines fits new rest = passes (record { number = number; instruction = says.Recover at node members }) lines refl (λ h. h) (rest new)
  line before number (says.Cut at connection down up) lines fits new rest = passes (record { number = number; instruction = says.Cut at connection down up }) lines refl (λ h. h) (rest new)
  line before number (says.Fault node nth) lines fits new rest = passes (record { number = number; instruction = says.Fault node nth }) lines refl (λ h. h) (rest new)
  line before number (says.Stop node) lines fits new rest = passes (record { number = number; instruction = says.Stop node }) lines refl (λ h. h) (rest new)
  line before number (says.Start node) lines fits new rest = passes (record { number = number; instruction = says.Start node }) lines refl (λ h. h) (rest new)
  line before number (says.Run events) lines fits new rest = passes (record { number = number; instruction = says.Run events }) lines refl (λ h. h) (rest new)
  line before number says.Settle lines fits new rest = passes (record { number = number; instruction = says.Settle }) lines refl (λ h. h) (rest new)
  line before number (says.Step at event) lines fits new rest = passes (record { number = number; instruction = says.Step at event }) lines refl (λ h. h) (rest new)
  line before number (says.Expect node at state stamp written) lines fits new rest = passes (record { number = number; instruction = says.Expect node at state stamp written }) lines refl (λ h. h) (rest new)

  lines-known : (before : Before) (lines : List ScriptLine) → LinesFit before lines → New before → Known lines
  lines-known before [] fits new = inr refl
  lines-known before (l ∷ lines) fits new = line before l.number l.instruction lines fits.0 new (λ later. lines-known (after before l.instruction) lines fits.1 later)

pub commands-of-blocks : CommandsAreOfBlocks
commands-of-blocks shelves script b fits =
    subst (λ (lines : List ScriptLine). Has (blocks_of lines) b ⊎ (commands_of b lines ≡ [])) (sym fits.parts) (lines-known b (begun fits.nodes fits.seed) fits.body fits.lines refl)
