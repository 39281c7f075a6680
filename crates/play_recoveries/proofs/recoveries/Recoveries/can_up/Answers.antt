-- The client of the primary that dialled says whether it takes.
use Rattle.std.proofs.Common.{subst}
use Rattle.play_nodes.proofs.PlaceLaws.{none_so, element_some}
use Rattle.play_recoveries.specs.Dues.{TellsClient}
use Rattle.play_recoveries.proofs.DueLaws.{none_up, told_up}
use Rattle.play_recoveries.proofs.recoveries.Recoveries.can_up.Goals as goal

pub returns-in_default-clause-tells : goal.returns-in_default-clause-tells
returns-in_default-clause-tells g c =
    none_up g.R.Roads g.I.LinkIn g.O.LinkOut c.args.conn c.args.nodes.now c.args.self.now c.args.roads.now
    (subst (λ x. TellsClient g.I.LinkIn g.O.LinkOut c.args.conn c.args.nodes.now c.args.self.now x) (none_so c.client_at.result c.in_default.not-Some) c.client_at.ensures.tells)

pub returns-clause-tells : goal.returns-clause-tells
returns-clause-tells g c =
    told_up g.R.Roads g.I.LinkIn g.O.LinkOut c.args.conn c.args.nodes.now c.args.self.now c.in-Some.leader c.index.result.now c.args.roads.now c.can_up.new.roads c.can_up.result c.in-Some.ensures.tells
    (element_some c.args.self.now.clients.items c.in-Some.leader.client c.index.result.now c.in-Some.ensures.within c.index.ensures) c.can_up.ensures.tells
