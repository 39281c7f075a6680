-- The first line that plays don't have.
use Rattle.std.proofs.Common.{◌≡◌, Bool, true, false, cond, List, [], ◌∷◌, Option, Some, None, IsNone, is_some, find, Bor, option_map, refl, sym, ◌∙◌, ap}
use Rattle.std.specs.Prelude.{not}
use Rattle.script_lang.specs.declared.instructions.Instruction.{Instruction}
use Rattle.script_lang.specs.declared.instructions.Instruction.TheVariants as says
use Rattle.script_lang.specs.declared.instructions.ScriptLine.{ScriptLine}
use Rattle.play_scripts.specs.Unplayed.{is_unplayed, ArePlayed, LineIsTold, LinesAreTold}

-- the line that is found
abbrev first_line : Bool → List ScriptLine → Option ScriptLine
first_line told lines = find (λ (l : ScriptLine). is_unplayed told l.instruction) lines

none_unplayed : (told : Bool) (lines : List ScriptLine) → IsNone (first_line told lines) → ArePlayed told lines
none_unplayed told [] none = tt
none_unplayed told (l ∷ lines) none = at (is_unplayed told l.instruction) none (none_unplayed told lines) where
  at : (b : Bool) → is_some (cond b (Some l) (first_line told lines)) ≡ false → (IsNone (first_line told lines) → ArePlayed told lines) → (b ≡ false) × ArePlayed told lines
  at true none more = absurd (let f : true ≡ false = none in cc)
  at false none more = (refl, more none)

all_played : (told : Bool) (lines : List ScriptLine) → ArePlayed told lines → IsNone (first_line told lines)
all_played told [] played = refl
all_played told (l ∷ lines) played = rw played.0 (all_played told lines played.1)

same_kind : (o : Option (Bor ScriptLine)) → is_some (option_map (λ (l : Bor ScriptLine). l.now) o) ≡ is_some o
same_kind None = refl
same_kind (Some l) = refl

-- Nothing is found where each line is played.
pub found_none : (told : Bool) (lines : List ScriptLine) (o : Option (Bor ScriptLine)) (b : Bool) → option_map (λ (l : Bor ScriptLine). l.now) o ≡ first_line told lines → is_some o ≡ b → (b ≡ false → ArePlayed told lines) × (ArePlayed told lines → b ≡ false)
found_none told lines o b e is =
    let some : is_some (first_line told lines) ≡ b = sym (ap is_some e) ∙ (same_kind o ∙ is) in
    (λ none. none_unplayed told lines (some ∙ none), λ played. sym some ∙ all_played told lines played)

-- LINES THAT ARE TOLD

is_told : (told : Bool) → not told ≡ false → told ≡ true
is_told true e = refl
is_told false e = cc

line_told : (told : Bool) (i : Instruction) → is_unplayed told i ≡ false → LineIsTold told i
line_told told (says.Start node) e = is_told told e
line_told told (says.Read block node offset count) e = is_told told e
line_told told (says.Fault node nth) e = is_told told e
line_told told _ e = tt

-- Of lines that plays have the starts, the reads and the faults are over shelves that tell.
pub played_told : (told : Bool) (lines : List ScriptLine) → ArePlayed told lines → LinesAreTold told lines
played_told told [] played = tt
played_told told (l ∷ lines) played = (line_told told l.instruction played.0, played_told told lines played.1)
