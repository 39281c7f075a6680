-- A node of a play stopped, and the event was kept.
use Rattle.node_stops.proofs.MemberEvents.SetupKnown.{pass_on}
use Rattle.play_dues.proofs.PlayReads.StopLaws.{servers_known}
use Rattle.play_dues.proofs.PlayRecoveries.StopLaws.{all_known}
use Rattle.play.proofs.ReadSteps.{reads_stand}
use Rattle.play.proofs.RecoverySteps.{recoveries_stand}
use Rattle.play.proofs.StopPlays.{stop_shows}
use Rattle.play.proofs.player.Player.stop.Goals as goal

pub stop-requires-after_bounds : goal.stop-requires-after_bounds
stop-requires-after_bounds g c κs within =
    servers_known g.F.Files g.R.Roads g.I.LinkIn g.O.LinkOut c.args.roads.now c.stop_node.new.roads c.args.self.now.nodes c.args.self.now.reads
    (reads_stand g.F.Files g.R.Roads g.I.LinkIn g.O.LinkOut c.args.roads.now c.args.self.now c.requires.stands) c.stop_node.ensures.pass

pub stop-requires-2-after_bounds : goal.stop-requires-2-after_bounds
stop-requires-2-after_bounds g c κs within =
    all_known g.F.Files g.R.Roads g.I.LinkIn g.O.LinkOut c.args.roads.now c.stop.new.roads c.args.self.now.nodes c.args.self.now.recoveries
    (recoveries_stand g.F.Files g.R.Roads g.I.LinkIn g.O.LinkOut c.args.roads.now c.args.self.now c.requires.stands)
    (pass_on g.R.Roads g.I.LinkIn g.O.LinkOut c.args.roads.now c.stop_node.new.roads c.stop.new.roads c.stop_node.ensures.pass c.stop.ensures.pass)

pub returns-clause-shows : goal.returns-clause-shows
returns-clause-shows g c =
    stop_shows g.F.Files g.R.Roads g.I.LinkIn g.O.LinkOut c.worlds_are_lawful.ensures c.dials_have_origins.ensures c.clients_stay.ensures c.recoveries_leave_others.ensures.stay c.args.node c.args.self.now c.stopped.new.self c.keep.new.self c.stop_node.new.nodes c.stop.new.self c.stop-2.new.self c.args.roads.now c.stop_node.new.roads c.stop.new.roads c.stop-2.new.roads c.keep.result c.in-Ok.ensures.shows c.in-Ok.ensures.sizes c.in-Ok-stop.ensures.shows c.in-Ok-stop-2.ensures.shows c.stopped.ensures c.keep.ensures.kept
