-- The connection stands behind the others.
use Rattle.play_nodes.proofs.KeptNodes.{read_shows}
use Rattle.play_nodes.proofs.nodes.Nodes.read.Goals as goal

pub returns-clause-shows : goal.returns-clause-shows
returns-clause-shows g c = read_shows g.I.LinkIn g.O.LinkOut c.args.reader c.args.node c.args.self.now c.add_elsewhere.new.self c.add_elsewhere.result c.add_elsewhere.ensures.behind
