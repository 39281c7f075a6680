-- Nothing was dialled.
use Rattle.play_nodes.proofs.KeptNodes.{nodes_kept}
use Rattle.play_nodes.proofs.frames.nodes_stay.Goals as goal

pub returns : goal.returns
returns g c = λ w net v made n k same. nodes_kept g.I.LinkIn g.O.LinkOut w net v made n k same
