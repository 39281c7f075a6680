-- A lower end that is kept elsewhere acted.
use Rattle.play_nodes.proofs.ElsewhereNodes.{nodes_followed}
use Rattle.play_nodes.proofs.frames.nodes_follow.Goals as goal

pub returns : goal.returns
returns g c = λ w net v made c' old new h. nodes_followed g.I.LinkIn g.O.LinkOut w net v made c' old new h
