-- The events of writers keep what the nodes show.
use Rattle.play_nodes.proofs.WriterFrames.{own_keeps, heard_keeps}
use Rattle.play_nodes.proofs.frames.writers_keep_nodes.Goals as goal

pub returns-clause-own : goal.returns-clause-own
returns-clause-own c = own_keeps

pub returns-clause-heard : goal.returns-clause-heard
returns-clause-heard c = heard_keeps
