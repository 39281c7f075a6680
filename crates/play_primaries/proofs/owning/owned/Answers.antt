-- A primary that has its result, or whose node has stopped, has no step.
use Rattle.std.proofs.Common.{Ok, ap}
use Rattle.play_primaries.specs.declared.clients.PrimaryState.TheVariants as state
use Rattle.play_primaries.specs.Clients.{can_act}
use Rattle.play_primaries.proofs.BegunLaws.{idle_shows}
use Rattle.play_primaries.proofs.owning.owned.Goals as goal

pub returns-in-HasLed-clause-shows : goal.returns-in-HasLed-clause-shows
returns-in-HasLed-clause-shows g c =
    idle_shows g.D.Desk g.R.Roads g.I.LinkIn g.O.LinkOut (record { recovery = c.args.recovery.now; state = c.args.state }) (record { recovery = c.args.recovery.now; state = state.HasLed c.in-HasLed.led })
    c.args.office.now c.args.office.now c.args.roads.now c.args.roads.now (Ok c.new.result) (ap (can_act c.args.recovery.now.may_begin) c.in-HasLed.is)

pub returns-in-Stopped-clause-shows : goal.returns-in-Stopped-clause-shows
returns-in-Stopped-clause-shows g c =
    idle_shows g.D.Desk g.R.Roads g.I.LinkIn g.O.LinkOut (record { recovery = c.args.recovery.now; state = c.args.state }) (record { recovery = c.args.recovery.now; state = state.Stopped })
    c.args.office.now c.args.office.now c.args.roads.now c.args.roads.now (Ok c.new-in-Stopped.result) (ap (can_act c.args.recovery.now.may_begin) c.in-Stopped.is)
