-- The client says whether its primary has an own step.
use Rattle.play_nodes.proofs.PlaceLaws.{element_some}
use Rattle.play_recoveries.proofs.ToldLaws.{told_step}
use Rattle.play_recoveries.proofs.recoveries.Recoveries.has_step.Goals as goal

pub returns : goal.returns
returns g c =
    told_step g.I.LinkIn g.O.LinkOut c.args.place c.args.self.now c.index.result.now c.has_step.result (element_some c.args.self.now.clients.items c.args.place c.index.result.now c.requires c.index.ensures) c.has_step.ensures.tells
