-- The laws.
use Rattle.play_primaries.proofs.PrimarySteps.{own_steps_keep_nodes, hearing_keeps_nodes}
use Rattle.play_primaries.proofs.frames.primaries_keep_nodes.Goals as goal

pub returns-clause-owns : goal.returns-clause-owns
returns-clause-owns c = own_steps_keep_nodes

pub returns-clause-hears : goal.returns-clause-hears
returns-clause-hears c = hearing_keeps_nodes
