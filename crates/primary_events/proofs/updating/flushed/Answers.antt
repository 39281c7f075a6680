-- All ends were exchanged, or the roads failed.
use Rattle.primary_events.proofs.PassLaws.{exchanges_pass, exchange_fault}
use Rattle.primary_events.proofs.updating.flushed.Goals as goal

pub returns-in-Ok-clause-pass : goal.returns-in-Ok-clause-pass
returns-in-Ok-clause-pass g c = exchanges_pass g.R.Roads g.I.LinkIn g.O.LinkOut c.args.primary.now.links.items c.exchange.new.self.links.items c.args.roads.now c.exchange.new.roads c.exchange.result c.exchange.ensures.exchanges

pub returns-in-Err-clause-flushes : goal.returns-in-Err-clause-flushes
returns-in-Err-clause-flushes g c =
    rw c.road_fault.ensures (exchange_fault g.R.Roads g.I.LinkIn g.O.LinkOut c.args.conns.now c.args.primary.now c.exchange.new.self c.args.roads.now c.exchange.new.roads c.in-Err.error c.in-Err.ensures.exchanges)

pub returns-in-Err-clause-pass : goal.returns-in-Err-clause-pass
returns-in-Err-clause-pass g c = exchanges_pass g.R.Roads g.I.LinkIn g.O.LinkOut c.args.primary.now.links.items c.exchange.new.self.links.items c.args.roads.now c.exchange.new.roads c.exchange.result c.exchange.ensures.exchanges
