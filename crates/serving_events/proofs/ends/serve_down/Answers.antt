-- The end took what stood next, and what followed.
use Rattle.std.proofs.Common.{rules}
use Rattle.serving_events.proofs.EndEvents.{end_failed, end_shows}
use Rattle.serving_events.proofs.ends.serve_down.Goals as goal

pub returns-in_err-end-clause-shows : goal.returns-in_err-end-clause-shows
returns-in_err-end-clause-shows g c = end_failed g.R.Roads g.I.LinkIn g.O.LinkOut c.args.read c.from_residual.result c.in_err-end.field-0.0 c.args.roads.now c.exchanged.new.roads (search rules) c.in_err-end.ensures.ends

pub returns-clause-shows : goal.returns-clause-shows
returns-clause-shows g c =
    end_shows g.R.Roads g.I.LinkIn g.O.LinkOut c.args.read c.in_ok-end.end c.args.roads.now c.exchanged.new.roads c.closed.new.roads c.closed.result c.in_ok-end.ensures.ends c.closed.ensures.ends
