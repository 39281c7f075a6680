-- The request was answered, and what followed.
use Rattle.serving_events.proofs.RequestEvents.{request_shows}
use Rattle.serving_events.proofs.requests.serve_request.Goals as goal

pub returns-clause-shows : goal.returns-clause-shows
returns-clause-shows g c =
    request_shows g.F.Files g.R.Roads g.I.LinkIn g.O.LinkOut c.args.op c.args.end c.new.result c.step-stepped.result c.args.book.now c.step-stepped.new.book c.args.roads.now c.placed.new.roads c.placed.result
    c.new.ensures c.step-stepped.ensures c.placed.ensures.ends
