-- One client more is looked at.
use Rattle.std.proofs.Common.{arith}
use Rattle.play_nodes.proofs.MemberEvents.SetupKnown.{pass_on}
use Rattle.play_recoveries.proofs.HaltLaws.{halting_none, halting_next, clients_stop}
use Rattle.play_recoveries.proofs.recoveries.Recoveries.stop_clients.Goals as goal

pub loop-place-init : goal.loop-place-init
loop-place-init g c = halting_none g.R.Roads g.I.LinkIn g.O.LinkOut c.args.node c.args.self.now c.args.roads.now c.requires

pub stop_client-requires-clause-within : goal.stop_client-requires-clause-within
stop_client-requires-clause-within g c κs within = omega (arith, c.loop-place-test.true, c.len-place-end.ensures, c.loop-place.invariant.count)

pub stop_client-requires-clause-known : goal.stop_client-requires-clause-known
stop_client-requires-clause-known g c κs within = c.loop-place.invariant.known

pub returns-in_err-stop_client-clause-pass : goal.returns-in_err-stop_client-clause-pass
returns-in_err-stop_client-clause-pass g c =
    pass_on g.R.Roads g.I.LinkIn g.O.LinkOut c.args.roads.now c.loop-place.roads c.stop_client.new.roads c.loop-place.invariant.pass c.stop_client.ensures.pass

pub loop-place-preserved : goal.loop-place-preserved
loop-place-preserved g c =
    halting_next g.R.Roads g.I.LinkIn g.O.LinkOut c.args.node c.primary_clients_stay.ensures c.args.self.now c.loop-place.self c.stop_client.new.self
    c.args.roads.now c.loop-place.roads c.stop_client.new.roads c.loop-place.place (omega (arith, c.loop-place-test.true, c.len-place-end.ensures)) c.in_ok-stop_client.ensures.stops c.stop_client.ensures.known c.stop_client.ensures.pass c.loop-place.invariant

pub returns-clause-stops : goal.returns-clause-stops
returns-clause-stops g c =
    clients_stop g.R.Roads g.I.LinkIn g.O.LinkOut c.args.node c.args.self.now c.loop-place.self c.args.roads.now c.loop-place.roads c.loop-place.place
    (omega (arith, c.loop-place-test.false, c.len-place-end.ensures)) c.loop-place.invariant

pub returns-clause-known : goal.returns-clause-known
returns-clause-known g c = c.loop-place.invariant.known

pub returns-clause-pass : goal.returns-clause-pass
returns-clause-pass g c = c.loop-place.invariant.pass
