-- The client of the primary that dialled says whether it hears on the connection.
use Rattle.std.proofs.Common.{subst}
use Rattle.play_nodes.proofs.PlaceLaws.{none_so, element_some}
use Rattle.play_recoveries.specs.Dues.{TellsClient}
use Rattle.play_recoveries.proofs.OverLaws.{none_over, told_over}
use Rattle.play_recoveries.proofs.recoveries.Recoveries.leads_over.Goals as goal

pub returns-in_default : goal.returns-in_default
returns-in_default g c =
    none_over g.I.LinkIn g.O.LinkOut c.args.conn c.args.nodes.now c.args.self.now
    (subst (λ x. TellsClient g.I.LinkIn g.O.LinkOut c.args.conn c.args.nodes.now c.args.self.now x) (none_so c.client_at.result c.in_default.not-Some) c.client_at.ensures.tells)

pub returns : goal.returns
returns g c =
    told_over g.I.LinkIn g.O.LinkOut c.args.conn c.args.nodes.now c.args.self.now c.in-Some.leader c.index.result.now c.hears_on.result c.in-Some.ensures.tells
    (element_some c.args.self.now.clients.items c.in-Some.leader.client c.index.result.now c.in-Some.ensures.within c.index.ensures) c.hears_on.ensures
