-- The client of the reader that dialled says whether it takes.
use Rattle.play_nodes.proofs.PlaceLaws.{element_some}
use Rattle.play_reads.proofs.DueLaws.{told_up}
use Rattle.play_reads.proofs.reads.Reads.can_up.Goals as goal

pub returns-clause-tells : goal.returns-clause-tells
returns-clause-tells g c =
    told_up g.R.Roads g.I.LinkIn g.O.LinkOut c.args.conn c.args.nodes.now c.args.self.now c.in-Some.place c.index.result.now c.args.roads.now c.can_up.new.roads c.can_up.result c.in-Some.ensures.tells
    (element_some c.args.self.now.clients.items c.in-Some.place c.index.result.now c.in-Some.ensures.within c.index.ensures) c.can_up.ensures.tells
