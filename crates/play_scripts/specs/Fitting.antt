-- What the lines of a script keep, so that a play can take them.
use Rattle.std.specs.Prelude.{ℕ, ◌≡◌, ◌==◌, ◌≤◌, true, false, List, [], ◌∷◌, length}
use Rattle.hd_base.specs.Bytes.{IsBytes}
use Rattle.hd_base.specs.SumRules.{IsChunkSize}
use Rattle.hd_base.specs.declared.numbers.NodeId.{NodeId}
use Rattle.script_lang.specs.declared.instructions.Instruction.{Instruction}
use Rattle.script_lang.specs.declared.instructions.Instruction.TheVariants as says
use Rattle.script_lang.specs.declared.instructions.ScriptLine.{ScriptLine}
use Rattle.script_lang.specs.Fits.{Before, start, fit_rules, after}
use Rattle.script_lang.specs.Grammar.{EachScript, numbered}
use Rattle.script_lang.specs.Rules.{AllKept}
use Rattle.script_lang.specs.Scripts.{most_lines}
use Rattle.play_laws.specs.World.Clients.{are_members}
use Rattle.play_laws.specs.Members.{AreAll, IsNode}
use Rattle.play_scripts.specs.Numbering.{LinesAscend}

-- LINES

-- At least one member and at most 16, none of them twice, and each is one of the first nodes, so many.
pub record MembersFit (nodes : ℕ) (members : List NodeId) : Type 0 where
  pub some : (length members == 0) ≡ false
  pub formed : are_members members ≡ true
  pub below : AreAll (IsNode nodes) members

-- A line behind the first two: the members that it names are so, as is the node that it reads at, that leads a
-- recovery, or at which a write is to fail; it has a chunk size that there is, and it writes bytes.
abbrev pub WordsFit : ℕ → Instruction → Type 0
WordsFit nodes (says.Nodes count) = ⊥
WordsFit nodes (says.Seed seed) = ⊥
WordsFit nodes (says.Sums block rule) = IsChunkSize rule.chunk
WordsFit nodes (says.Create block members) = MembersFit nodes members
WordsFit nodes (says.Append block members) = MembersFit nodes members
WordsFit nodes (says.Write block bytes) = IsBytes bytes
WordsFit nodes (says.Read block at offset count) = IsNode nodes at
WordsFit nodes (says.Recover block at members) = IsNode nodes at × MembersFit nodes members
WordsFit nodes (says.Fault node nth) = IsNode nodes node
WordsFit nodes other = Unit {0}

-- A line keeps this, and fits those before it.
pub record LineFits (before : Before) (i : Instruction) : Type 0 where
  pub words : WordsFit before.nodes i
  pub kept : AllKept (fit_rules before i)

-- So does each line, one after the other.
abbrev pub LinesFit : Before → List ScriptLine → Type 0
LinesFit before [] = Unit {0}
LinesFit before (l ∷ lines) = LineFits before l.instruction × LinesFit (after before l.instruction) lines

-- SCRIPTS

-- behind the first two lines of a script, which give so many nodes, and the seed
abbrev pub begun : ℕ → ℕ → Before
begun nodes seed = after (after start (says.Nodes nodes)) (says.Seed seed)

-- The first two lines give the nodes, at most 16 and no more than the shelves, and the seed; the others, which are few,
-- fit, and their numbers ascend.
pub record ScriptFits (shelves : ℕ) (said : List ScriptLine) : Type 0 where
  pub nodes : ℕ
  pub seed : ℕ
  pub first : ℕ
  pub second : ℕ
  pub body : List ScriptLine
  pub parts : said ≡ numbered first (says.Nodes nodes) ∷ numbered second (says.Seed seed) ∷ body
  pub few : nodes ≤ 16
  pub shelved : nodes ≤ shelves
  pub lines : LinesFit (begun nodes seed) body
  pub count : length body ≤ most_lines
  pub ascend : LinesAscend 0 body

-- So it is of every script.
abbrev pub ScriptsFit : Type 0
ScriptsFit = EachScript ScriptFits
