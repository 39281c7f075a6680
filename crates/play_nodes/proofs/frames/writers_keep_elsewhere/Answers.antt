-- The events of writers keep what is elsewhere.
use Rattle.play_nodes.proofs.ElsewhereWriters.{own_leaves, heard_leaves}
use Rattle.play_nodes.proofs.frames.writers_keep_elsewhere.Goals as goal

pub returns-clause-own : goal.returns-clause-own
returns-clause-own c = own_leaves

pub returns-clause-heard : goal.returns-clause-heard
returns-clause-heard c = heard_leaves
