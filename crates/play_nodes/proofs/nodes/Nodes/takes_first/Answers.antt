-- An end that has taken nothing yet is the world's.
use Rattle.play_nodes.proofs.DueNodes.{told_idle}
use Rattle.play_nodes.proofs.nodes.Nodes.takes_first.Goals as goal

pub returns : goal.returns
returns g c = told_idle g.I.LinkIn g.O.LinkOut c.args.self.now c.args.conn c.is_idle.result c.is_idle.ensures
