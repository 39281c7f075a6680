-- One server more is looked at.
use Rattle.std.proofs.Common.{arith}
use Rattle.play_nodes.proofs.MemberEvents.SetupKnown.{pass_on}
use Rattle.play_reads.proofs.EndLaws.{ending_none, ending_next}
use Rattle.play_reads.proofs.StopLaws.{stop_shows}
use Rattle.play_reads.proofs.reads.Reads.stop.Goals as goal

pub loop-place-init : goal.loop-place-init
loop-place-init g c = ending_none g.R.Roads g.I.LinkIn g.O.LinkOut c.args.nodes.now c.args.node c.args.self.now c.args.roads.now c.requires

pub stop_at-requires-clause-within : goal.stop_at-requires-clause-within
stop_at-requires-clause-within g c κs within = omega (arith, c.loop-place-test.true, c.len-place-end.ensures, c.loop-place.invariant.count)

pub stop_at-requires-clause-known : goal.stop_at-requires-clause-known
stop_at-requires-clause-known g c κs within = c.loop-place.invariant.known

pub returns-in_err-stop_at-clause-pass : goal.returns-in_err-stop_at-clause-pass
returns-in_err-stop_at-clause-pass g c =
    pass_on g.R.Roads g.I.LinkIn g.O.LinkOut c.args.roads.now c.loop-place.roads c.stop_at.new.roads c.loop-place.invariant.pass c.stop_at.ensures.pass

pub loop-place-preserved : goal.loop-place-preserved
loop-place-preserved g c =
    ending_next g.R.Roads g.I.LinkIn g.O.LinkOut c.args.nodes.now c.args.node g.F.Files c.nodes_follow.ensures c.brings_show.ensures c.idle_flushes_are_nets.ensures c.nets_stay_sane.ensures c.ends_elsewhere_stay.ensures c.args.self.now c.loop-place.self c.stop_at.new.self
    c.args.roads.now c.loop-place.roads c.stop_at.new.roads c.loop-place.place (omega (arith, c.loop-place-test.true, c.len-place-end.ensures)) c.in_ok-stop_at.ensures.ends c.stop_at.ensures.pass c.loop-place.invariant

pub returns-clause-shows : goal.returns-clause-shows
returns-clause-shows g c =
    stop_shows g.R.Roads g.I.LinkIn g.O.LinkOut c.read_clients_stay.ensures c.args.node c.args.nodes.now c.args.self.now c.loop-place.self c.args.roads.now c.loop-place.roads c.loop-place.place
    (omega (arith, c.loop-place-test.false, c.len-place-end.ensures)) c.loop-place.invariant

pub returns-clause-pass : goal.returns-clause-pass
returns-clause-pass g c = c.loop-place.invariant.pass
