-- The lines that plays don't have. Whether they have a start, a read or a fault is by the shelves: those that tell
-- their files tell what it finds.
use Rattle.std.specs.Prelude.{◌≡◌, ℕ, Bool, true, false, not, List, [], ◌∷◌, Option, option_map, find}
use Rattle.script_lang.specs.declared.instructions.Instruction.{Instruction}
use Rattle.script_lang.specs.declared.instructions.Instruction.TheVariants as says
use Rattle.script_lang.specs.declared.instructions.ScriptLine.{ScriptLine}

-- a start, a read or a fault, where the shelves don't tell their files
abbrev pub is_unplayed : Bool → Instruction → Bool
is_unplayed told (says.Start node) = not told
is_unplayed told (says.Read block node offset count) = not told
is_unplayed told (says.Fault node nth) = not told
is_unplayed told other = false

-- the number of the first of these lines
abbrev pub first_unplayed : Bool → List ScriptLine → Option ℕ
first_unplayed told lines =
    option_map (λ (l : ScriptLine). l.number) (find (λ (l : ScriptLine). is_unplayed told l.instruction) lines)

-- none of these lines is among them
abbrev pub ArePlayed : Bool → List ScriptLine → Type 0
ArePlayed told [] = Unit {0}
ArePlayed told (l ∷ lines) = (is_unplayed told l.instruction ≡ false) × ArePlayed told lines

-- whether a line starts a node
abbrev pub is_start : Instruction → Bool
is_start (says.Start node) = true
is_start other = false

-- whether a line makes a write fail
abbrev pub is_fault : Instruction → Bool
is_fault (says.Fault node nth) = true
is_fault other = false

-- a start, a read or a fault only where the shelves tell their files
abbrev pub LineIsTold : Bool → Instruction → Type 0
LineIsTold told (says.Start node) = told ≡ true
LineIsTold told (says.Read block node offset count) = told ≡ true
LineIsTold told (says.Fault node nth) = told ≡ true
LineIsTold told other = Unit {0}

-- So is each of these lines.
abbrev pub LinesAreTold : Bool → List ScriptLine → Type 0
LinesAreTold told [] = Unit {0}
LinesAreTold told (l ∷ lines) = LineIsTold told l.instruction × LinesAreTold told lines

-- Lines that plays have are so.
abbrev pub PlayedAreTold : Type 0
PlayedAreTold = (told : Bool) (lines : List ScriptLine) → ArePlayed told lines → LinesAreTold told lines
