-- The first request was answered.
use Rattle.recovery_events.proofs.AnswerEvents.{request_shows}
use Rattle.recovery_events.proofs.answering.recover_request.Goals as goal

pub returns-clause-shows : goal.returns-clause-shows
returns-clause-shows g c =
    request_shows g.F.Files g.R.Roads g.I.LinkIn g.O.LinkOut c.args.op c.args.end c.args.incoming c.args.book.now c.answered.new.book c.args.roads.now c.answered.new.roads c.answered.result c.answered.ensures.ends
