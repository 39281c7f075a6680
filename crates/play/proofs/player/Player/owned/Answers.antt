-- What an own step left was kept.
use Rattle.std.proofs.Common.{sym, ◌∙◌}
use Rattle.play.proofs.OwnSteps.{owned_so}
use Rattle.node_stops.proofs.PlayNodes.SizeLaws.{sizes_after}
use Rattle.play.proofs.player.Player.owned.Goals as goal

pub returns-clause-owned : goal.returns-clause-owned
returns-clause-owned g c =
    owned_so g.I.LinkIn g.O.LinkOut c.args.self.now c.dialled.new.self c.asked.new.self c.keep.new.self c.args.block c.args.left c.keep.result (sym c.is_running.ensures ∙ c.if-is_running.false) c.in_ok-dialled.ensures.dialled c.in_ok-asked.ensures.asked c.keep.ensures.kept

pub returns-in_err-asked-clause-sizes : goal.returns-in_err-asked-clause-sizes
returns-in_err-asked-clause-sizes g c = sizes_after c.args.self.now.nodes c.dialled.new.self.nodes c.asked.new.self.nodes c.dialled.ensures.sizes c.asked.ensures.sizes

pub returns-clause-sizes : goal.returns-clause-sizes
returns-clause-sizes g c =
    sizes_after c.args.self.now.nodes c.dialled.new.self.nodes c.keep.new.self.nodes c.dialled.ensures.sizes
    (sizes_after c.dialled.new.self.nodes c.asked.new.self.nodes c.keep.new.self.nodes c.asked.ensures.sizes c.keep.ensures.sizes)
