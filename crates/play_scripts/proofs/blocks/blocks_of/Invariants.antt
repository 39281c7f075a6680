-- The blocks of the lines so far.
use Rattle.std.proofs.Common.{◌≡◌, take}
use Rattle.play_laws.specs.PlayModel.Lines.{blocks_of}
use Rattle.play_scripts.specs.Blocks.{numbers}
use Rattle.play_scripts.proofs.blocks.blocks_of.Given as goal

abbrev pub invariant-loop-line : goal.invariant-loop-line
invariant-loop-line l = numbers l.blocks.items ≡ blocks_of (take l.line-index l.lines)
