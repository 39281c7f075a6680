-- A primary heard what stood next, and the event was kept.
use Rattle.std.proofs.Common.{Err, refl, sym, subst}
use Rattle.play.specs.declared.faults.PlayFault.{PlayFault}
use Rattle.play.specs.Recovering.{PrimaryShows}
use Rattle.play.proofs.RecoverySteps.{recoveries_stand, told_left, told_failed}
use Rattle.play.proofs.player.Player.primary_up.Goals as goal

pub hear-requires-after_bounds : goal.hear-requires-after_bounds
hear-requires-after_bounds g c κs within = recoveries_stand g.F.Files g.R.Roads g.I.LinkIn g.O.LinkOut c.args.roads.now c.args.self.now c.requires

pub returns-in-Ok-clause-shows : goal.returns-in-Ok-clause-shows
returns-in-Ok-clause-shows g c =
    told_left g.F.Files g.R.Roads g.I.LinkIn g.O.LinkOut c.worlds_are_lawful.ensures c.clients_stay.ensures c.recoveries_leave_others.ensures c.args.conn c.args.self.now c.keep.new.self c.hear.new.self c.args.roads.now c.hear.new.roads c.keep.result c.in-Ok.ensures.shows c.keep.ensures.kept

pub returns-in-Err-clause-shows : goal.returns-in-Err-clause-shows
returns-in-Err-clause-shows g c =
    let now = record c.args.self.now { recoveries = c.hear.new.self } in
    subst (λ (x : PlayFault). PrimaryShows g.F.Files g.R.Roads g.I.LinkIn g.O.LinkOut c.args.conn c.args.self.now now c.args.roads.now c.hear.new.roads (Err x)) (sym c.of_recoveries.ensures)
    (told_failed g.F.Files g.R.Roads g.I.LinkIn g.O.LinkOut c.worlds_are_lawful.ensures c.clients_stay.ensures c.recoveries_leave_others.ensures c.args.conn c.args.self.now now c.args.roads.now c.hear.new.roads c.in-Err.fault refl c.in-Err.ensures.shows)
