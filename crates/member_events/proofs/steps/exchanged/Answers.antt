-- An exchange that failed has its cause.
use Rattle.member_events.proofs.FaultEvents.{exchange_fault}
use Rattle.member_events.proofs.PassLaws.{exchange_passes}
use Rattle.member_events.proofs.steps.exchanged.Goals as goal

pub returns-in-Err-clause-ends : goal.returns-in-Err-clause-ends
returns-in-Err-clause-ends g c =
    rw c.road_fault.ensures (exchange_fault g.R.Roads g.I.LinkIn g.O.LinkOut c.args.take c.args.member c.exchange.new.self c.args.roads.now c.exchange.new.roads c.in-Err.error (rw c.in-Err.is at c.exchange.ensures))

pub returns-in-Err-clause-pass : goal.returns-in-Err-clause-pass
returns-in-Err-clause-pass g c = exchange_passes g.R.Roads g.I.LinkIn g.O.LinkOut c.args.take c.args.member c.exchange.new.self c.args.roads.now c.exchange.new.roads c.exchange.result c.exchange.ensures
