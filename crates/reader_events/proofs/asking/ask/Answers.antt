-- The dial was answered, or nobody listens at the node's port.
use Rattle.std.proofs.Common.{Err, ap}
use Rattle.reader_events.proofs.AskLaws.{ask_shows, silent_shows}
use Rattle.reader_events.proofs.asking.ask.Goals as goal

pub returns-in-Ok-clause-shows : goal.returns-in-Ok-clause-shows
returns-in-Ok-clause-shows g c =
    ask_shows g.R.Roads g.I.LinkIn g.O.LinkOut c.node_port-port.result c.args.node c.args.op c.args.roads.now c.dial.new.self c.reached.new.roads c.in-Ok.end c.reached.result c.node_port-port.ensures
    (record {
      upper = c.in-Ok.ensures.upper;
      number = c.in-Ok.ensures.number;
      fresh = c.in-Ok.ensures.fresh;
      observable = c.in-Ok.ensures.observable;
      fail_by = c.in-Ok.ensures.schedules;
      unused = c.in-Ok.ensures.unused;
      empty = c.in-Ok.ensures.empty;
      plain = c.in-Ok.ensures.plain;
      carried = c.dial.ensures.carried;
      risen = c.dial.ensures.risen;
      never_falls = c.dial.ensures.cause.never_falls;
    })
    c.in-Ok.ensures.cause.nobody c.reached.ensures.asks

pub returns-in-Err-NotListening-clause-shows : goal.returns-in-Err-NotListening-clause-shows
returns-in-Err-NotListening-clause-shows g c =
    silent_shows g.R.Roads g.I.LinkIn g.O.LinkOut c.node_port-port.result c.args.node c.args.op c.args.roads.now c.dial.new.self c.node_port-port.ensures
    (c.in-Err-NotListening.ensures.cause.not_listening (ap Err c.in-Err-NotListening.field-0-is)) c.in-Err-NotListening.ensures.err c.dial.ensures.carried
