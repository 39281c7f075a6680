-- The laws.
use Rattle.play_readers.proofs.ReaderSteps.{asking_keeps_nodes, hearing_keeps_nodes}
use Rattle.play_readers.proofs.frames.readers_keep_nodes.Goals as goal

pub returns-clause-asks : goal.returns-clause-asks
returns-clause-asks c = asking_keeps_nodes

pub returns-clause-hears : goal.returns-clause-hears
returns-clause-hears c = hearing_keeps_nodes
