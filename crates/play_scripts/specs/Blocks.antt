-- The blocks that lines create.
use Rattle.std.specs.Prelude.{◌≡◌, ℕ, List, map, slice_get, Some}
use Rattle.hd_base.specs.declared.numbers.BlockId.{BlockId}
use Rattle.hd_base.specs.declared.numbers.NodeId.{NodeId}
use Rattle.script_lang.specs.declared.instructions.Instruction.TheVariants as says
use Rattle.script_lang.specs.declared.instructions.ScriptLine.{ScriptLine}
use Rattle.script_lang.specs.Fits.{Before}
use Rattle.play_laws.specs.World.Safe.{Has}
use Rattle.play_laws.specs.PlayModel.Lines.{blocks_of}
use Rattle.node_opening.specs.Shelves.{AreDistinct}
use Rattle.play_scripts.specs.Fitting.{LinesFit}

-- the numbers of blocks
abbrev pub numbers : List BlockId → List ℕ
numbers blocks = map (λ (b : BlockId). b.0) blocks

-- The block of each line that creates one is among them.
abbrev pub AreAllCreated : List ScriptLine → List BlockId → Type 0
AreAllCreated lines blocks =
    (k : ℕ) (l : ScriptLine) (b : BlockId) (members : List NodeId) → slice_get lines k ≡ Some l →
    l.instruction ≡ says.Create b members
    → Has blocks b

-- They are the blocks of a play of these lines, in ascending order. Where the lines fit, none stands twice.
pub record AreBlocks (lines : List ScriptLine) (blocks : List BlockId) : Type 0 where
  pub are : numbers blocks ≡ blocks_of lines
  pub distinct : (before : Before) → LinesFit before lines → AreDistinct blocks
  pub all : AreAllCreated lines blocks
