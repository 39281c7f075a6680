-- The script is read from its source. Which lines plays have is by whether the shelves tell their files.
use Rattle.std.specs.Prelude.{◌≡◌, ◌⊎◌, ℕ, Bool, List, [], Option, Some, IfSome, Result, Ok, Err}
use Rattle.hd_base.specs.Faults.{FaultsIncreased}
use Rattle.hd_base.specs.Streams.{Took}
use Rattle.script_lang.specs.declared.faults.BadKind.{BadKind}
use Rattle.script_lang.specs.declared.faults.BadKind.TheVariants as kind
use Rattle.script_lang.specs.declared.instructions.ScriptLine.{ScriptLine}
use Rattle.script_lang.specs.Grammar.{IsScript, IsBad}
use Rattle.whole_play.specs.PlayScripts.Unplayed.{first_unplayed, ArePlayed}
use Rattle.dn_run.specs.declared.exits.Exit.{Exit}
use Rattle.dn_run.specs.declared.exits.Exit.TheVariants as exit

-- the most bytes of a script
abbrev pub script_limit : ℕ
script_limit = 16777216

-- TEXTS

-- It is a script for so many shelves, and plays have all its lines.
pub record IsPlayable (tells : Bool) (shelves : ℕ) (text : List ℕ) (lines : List ScriptLine) : Type 0 where
  pub script : IsScript shelves text lines
  pub played : ArePlayed tells lines

-- It is a script for so many shelves, and the first line that plays don't have yet is this one.
pub record IsUnplayed (tells : Bool) (shelves : ℕ) (text : List ℕ) (line : ℕ) (why : BadKind) : Type 0 where
  pub lines : List ScriptLine
  pub script : IsScript shelves text lines
  pub first : first_unplayed tells lines ≡ Some line
  pub word : why ≡ kind.Word

-- It is no script for so many shelves, and this is its first bad line; or it is one that plays don't have yet.
abbrev pub IsRefused : Bool → ℕ → List ℕ → ℕ → BadKind → Type 0
IsRefused tells shelves text line why = IsBad shelves text line why ⊎ IsUnplayed tells shelves text line why

-- The source, where it tells, is read to its end, and what it gave is a script with these lines, and no others.
pub record HasRead (tells : Bool) (old new : Option (List ℕ)) (shelves : ℕ) (lines : List ScriptLine) : Type 0 where
  pub text : List ℕ
  pub took : Took old new text
  pub to_end : IfSome new (λ rest. rest ≡ [])
  pub playable : IsPlayable tells shelves text lines
  pub only : IfSome old (λ told. (ls : List ScriptLine) → IsPlayable tells shelves told ls → ls ≡ lines)

-- EXITS

-- A script is refused only where, if told, the text is so; the source failed only where its count rose.
abbrev pub IsReadExit : Bool → Option (List ℕ) → ℕ → ℕ → ℕ → Exit → Type 0
IsReadExit tells left before now shelves (exit.BadScript line why) =
    IfSome left (λ text. IsRefused tells shelves text line why)
IsReadExit tells left before now shelves exit.ScriptFault = FaultsIncreased before now
IsReadExit tells left before now shelves exit.Memory = Unit {0}
IsReadExit tells left before now shelves other = ⊥

-- It is this refusal, or no script was read.
abbrev pub IsRefusal : ℕ → BadKind → Exit → Type 0
IsRefusal line why (exit.BadScript n k) = (n ≡ line) × (k ≡ why)
IsRefusal line why exit.ScriptFault = Unit {0}
IsRefusal line why exit.Memory = Unit {0}
IsRefusal line why other = ⊥

-- These lines are read, or nothing is, but not because they were refused.
abbrev pub ReadsLines : List ScriptLine → Result (List ScriptLine) Exit → Type 0
ReadsLines lines (Ok read) = read ≡ lines
ReadsLines lines (Err exit.ScriptFault) = Unit {0}
ReadsLines lines (Err exit.Memory) = Unit {0}
ReadsLines lines (Err other) = ⊥

-- A script of lines that plays have is read.
abbrev pub Accepts : Bool → ℕ → List ℕ → Result (List ScriptLine) Exit → Type 0
Accepts tells shelves text result = (lines : List ScriptLine) → IsPlayable tells shelves text lines →
    ReadsLines lines result

-- A text that is refused isn't read.
abbrev pub Refuses : {T : Type 0} → Bool → ℕ → List ℕ → Result T Exit → Type 0
Refuses tells shelves text (Ok x) = (line : ℕ) (why : BadKind) → IsRefused tells shelves text line why → ⊥
Refuses tells shelves text (Err ended) = (line : ℕ) (why : BadKind) → IsRefused tells shelves text line why →
    IsRefusal line why ended
