use Rattle.play_completeness.proofs.ScriptBlocks.{commands-of-blocks}
use Rattle.play_completeness.proofs.commands_are_of_blocks.Goals as goal

pub returns : goal.returns
returns c = commands-of-blocks
