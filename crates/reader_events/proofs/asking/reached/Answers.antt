-- The request was sent and the dial accepted, or the request couldn't be sent.
use Rattle.std.proofs.Common.{rules}
use Rattle.reader_events.proofs.AskSteps.{reached_failed, reached_asked}
use Rattle.reader_events.proofs.asking.reached.Goals as goal

pub returns-in_err-asking-clause-asks : goal.returns-in_err-asking-clause-asks
returns-in_err-asking-clause-asks g c =
    reached_failed g.R.Roads g.I.LinkIn g.O.LinkOut c.args.port c.args.op c.args.end c.in_ok-fresh.fresh c.args.roads.now c.sent.new.roads c.in_err-asking.field-0.0 c.from_residual-in_err-asking.result (search rules) c.in_ok-fresh.ensures c.in_err-asking.ensures.sends

pub returns-clause-asks : goal.returns-clause-asks
returns-clause-asks g c =
    reached_asked g.R.Roads g.I.LinkIn g.O.LinkOut c.args.port c.args.op c.args.end c.in_ok-fresh.fresh c.in_ok-asking.asking c.in_ok-waiting.waiting c.args.roads.now c.sent.new.roads c.flushed.new.roads c.accepted.new.roads c.accepted.result
    c.in_ok-fresh.ensures c.in_ok-asking.ensures.sends c.in_ok-waiting.ensures.flushes c.accepted.ensures.accepts
