-- The first request was taken, and what followed.
use Rattle.std.proofs.Common.{rules}
use Rattle.member_events.proofs.BeginEvents.{begin_failed, begin_ended, begin_taken}
use Rattle.member_events.proofs.beginning.begin.Goals as goal

pub returns-in_err-taken-clause-shows : goal.returns-in_err-taken-clause-shows
returns-in_err-taken-clause-shows g c =
    begin_failed g.R.Roads g.I.LinkIn g.O.LinkOut c.args.end c.from_residual.result c.in_err-taken.field-0.0 c.args.roads.now c.first_request.new.roads (search rules) c.in_err-taken.ensures.shows

pub returns-in-Some-clause-shows : goal.returns-in-Some-clause-shows
returns-in-Some-clause-shows g c =
    begin_taken g.R.Roads g.I.LinkIn g.O.LinkOut c.args.end c.in-Some.taken.end c.in-Some.taken.op c.write_request.result c.args.roads.now c.first_request.new.roads c.write_request.new.roads
    (rw c.in-Some.is at c.in_ok-taken.ensures.shows) c.write_request.ensures.ends

pub returns-in-None-clause-shows : goal.returns-in-None-clause-shows
returns-in-None-clause-shows g c =
    begin_ended g.R.Roads g.I.LinkIn g.O.LinkOut c.args.end c.args.roads.now c.first_request.new.roads (rw c.in-None.is at c.in_ok-taken.ensures.shows)
