-- What a script is, and which line of another text is bad and of which kind.
use Rattle.std.specs.Prelude.{◌≡◌, ◌==◌, ◌⊎◌, ℕ, ◌+◌, ◌<◌, ◌≤◌, Bool, true, false, List, [], ◌∷◌, ◌++◌, length, Some, None, Ok, Err}
use Rattle.std.specs.List.{AllByRecursion, list_any}
use Rattle.hd_base.specs.declared.numbers.BlockId.{BlockId}
use Rattle.script_lang.specs.declared.faults.BadKind.{BadKind}
use Rattle.script_lang.specs.declared.faults.BadKind.TheVariants as kind
use Rattle.script_lang.specs.declared.faults.ScriptError.{ScriptError}
use Rattle.script_lang.specs.declared.faults.ScriptError.TheVariants as error
use Rattle.script_lang.specs.declared.instructions.Instruction.{Instruction}
use Rattle.script_lang.specs.declared.instructions.Instruction.TheVariants as says
use Rattle.script_lang.specs.declared.instructions.ScriptLine.{ScriptLine}
use Rattle.script_lang.specs.Rules.{AllKept, BreaksFirst}
use Rattle.script_lang.specs.Words.{lines_of}
use Rattle.script_lang.specs.Said.{NamesBelow}
use Rattle.script_lang.specs.Fits.{Before, start, fit_rules, after}
use Rattle.script_lang.specs.Scripts.{line_said, head_is_there, most_size}

-- a line that says this, with its number
abbrev pub numbered : ℕ → Instruction → ScriptLine
numbered number line = record { number = number; instruction = line }

-- From this number on, and behind what the lines before tell, each line is good, and those that say something say these in order: a line says what
-- its words say, and fits the lines before it. At the end the head is there.
abbrev pub AreGood : ℕ → ℕ → Before → List (List ℕ) → List ScriptLine → Type 0
AreGood shelves number before [] said = (said ≡ []) × (head_is_there before.head ≡ true)
AreGood shelves number before (line ∷ lines) said =
    ((line_said shelves number before line ≡ Ok None) × AreGood shelves (number + 1) before lines said)
    ⊎ ((i : Instruction) × (rest : List ScriptLine) × (line_said shelves number before line ≡ Ok (Some i)) ×
    AllKept (fit_rules before i)
    × (said ≡ numbered number i ∷ rest) × AreGood shelves (number + 1) (after before i) lines rest)

-- A text is a script of these lines.
pub record IsScript (shelves : ℕ) (text : List ℕ) (said : List ScriptLine) : Type 0 where
  pub size : length text ≤ most_size
  pub good : AreGood shelves 1 start (lines_of text) said

-- This line breaks a rule, and this is the first that it breaks: a rule of its own bytes and words, or else one against the lines before it.
abbrev pub Breaks : ℕ → ℕ → Before → List ℕ → BadKind → Type 0
Breaks shelves number before line kind =
    (line_said shelves number before line ≡ Err kind)
    ⊎ ((i : Instruction) × (line_said shelves number before line ≡ Ok (Some i)) × BreaksFirst (fit_rules before i) kind)

-- The line with this number is the first bad one, and this the first rule that it breaks: the lines before it are good. Where no line is bad, the
-- head isn't there, and the line behind the last counts as the bad one.
abbrev pub FirstBad : ℕ → ℕ → Before → List (List ℕ) → ℕ → BadKind → Type 0
FirstBad shelves number before [] bad why = (bad ≡ number) × (why ≡ kind.Head) × (head_is_there before.head ≡ false)
FirstBad shelves number before (line ∷ lines) bad kind =
    ((bad ≡ number) × Breaks shelves number before line kind)
    ⊎ (((line_said shelves number before line ≡ Ok None) × FirstBad shelves (number + 1) before lines bad kind)
    ⊎ ((i : Instruction) × (line_said shelves number before line ≡ Ok (Some i)) × AllKept (fit_rules before i)
    × FirstBad shelves (number + 1) (after before i) lines bad kind))

-- A text is too long, or this is its first bad line.
abbrev pub IsBad : ℕ → List ℕ → ℕ → BadKind → Type 0
IsBad shelves text bad why =
    ((most_size < length text) × (bad ≡ 0) × (why ≡ kind.TooLong))
    ⊎ ((length text ≤ most_size) × FirstBad shelves 1 start (lines_of text) bad why)

-- An error but want of memory names the first bad line, and why.
abbrev pub IsBadFor : ℕ → List ℕ → ScriptError → Type 0
IsBadFor shelves text (error.Bad line why) = IsBad shelves text line why
IsBadFor shelves text error.Memory = Unit {0}

-- ---- what holds of every script

-- a fact of every script, and of the shelves that it was read for
abbrev pub EachScript : (ℕ → List ScriptLine → Type 0) → Type 0
EachScript P = (shelves : ℕ) (text : List ℕ) (said : List ScriptLine) → IsScript shelves text said → P shelves said

-- The first two lines are `nodes N` and `seed S`, N is at most 16 and no more than the shelves, and each node that a later line names is below N.
pub record NamesItsNodes (shelves : ℕ) (said : List ScriptLine) : Type 0 where
  pub nodes : ℕ
  pub seed : ℕ
  pub first : ℕ
  pub second : ℕ
  pub body : List ScriptLine
  pub parts : said ≡ numbered first (says.Nodes nodes) ∷ numbered second (says.Seed seed) ∷ body
  pub few : nodes ≤ 16
  pub shelved : nodes ≤ shelves
  pub named : AllByRecursion (λ line. NamesBelow nodes line.instruction) body

-- how many bytes a line writes, and how many it reads
abbrev pub written_by : Instruction → ℕ
written_by (says.Write block bytes) = length bytes
written_by (says.Fill block count) = count
written_by _ = 0

abbrev pub read_by : Instruction → ℕ
read_by (says.Read block node offset count) = count
read_by _ = 0

-- what lines write, or read, together
abbrev pub total_of : (Instruction → ℕ) → List ScriptLine → ℕ
total_of by [] = 0
total_of by (line ∷ lines) = by line.instruction + total_of by lines

-- whether a line opens this block again, and whether it needs the block open
abbrev pub is_append_of : ℕ → Instruction → Bool
is_append_of b (says.Append block members) = block.0 == b
is_append_of b _ = false

abbrev pub writes_to : ℕ → Instruction → Bool
writes_to b (says.Write block bytes) = block.0 == b
writes_to b (says.Fill block count) = block.0 == b
writes_to b (says.Hflush block) = block.0 == b
writes_to b (says.Hsync block) = block.0 == b
writes_to b (says.Close block) = block.0 == b
writes_to b _ = false

-- Between a close of a block and a later line that needs it open, a line opens it again.
abbrev pub OpensBeforeWrites : List ScriptLine → Type 0
OpensBeforeWrites said =
    (b : BlockId) (n m : ℕ) (i : Instruction) (front between rest : List ScriptLine) →
    said ≡ front ++ numbered n (says.Close b) ∷ (between ++ numbered m i ∷ rest) → writes_to b.0 i ≡ true
    → list_any (λ line. is_append_of b.0 line.instruction) between ≡ true
