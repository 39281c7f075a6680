-- The ends of the nodes aren't the writer's.
use Rattle.play_nodes.proofs.KeptNodes.{ends_stay}
use Rattle.play_nodes.proofs.frames.nodes_ends_stay.Goals as goal

pub returns : goal.returns
returns g c = λ w net v made b ordered others. ends_stay g.I.LinkIn g.O.LinkOut w net v made b ordered others
