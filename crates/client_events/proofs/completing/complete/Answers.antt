-- The office was asked, and what followed.
use Rattle.std.proofs.Common.{sym, ◌∙◌}
use Rattle.client_events.proofs.CompleteLaws.{complete_shows, complete_else}
use Rattle.client_events.proofs.FitLaws.{complete_fits, stepped_fits}
use Rattle.client_events.proofs.completing.complete.Goals as goal

pub returns-in_ok-put-in-Ask-clause-shows : goal.returns-in_ok-put-in-Ask-clause-shows
returns-in_ok-put-in-Ask-clause-shows g c =
    complete_shows g.D.Desk c.args.writer.now c.stepped.new.writer c.put.new.writer c.closed.new.writer c.in-Ask.call c.args.office.now c.put.new.office c.closed.result (sym c.in-Ask.is ∙ c.in_ok-action.ensures.0) c.in_ok-action.ensures.1 c.in_ok-put-in-Ask.ensures c.closed.ensures

pub returns-in_default-clause-shows : goal.returns-in_default-clause-shows
returns-in_default-clause-shows g c = complete_else g.D.Desk c.args.writer.now c.stepped.new.writer c.in_ok-action.action c.args.office.now c.said_by.result c.in_ok-action.ensures.0 c.in_default.not-Ask

pub returns-in_ok-put-in-Ask-clause-fits : goal.returns-in_ok-put-in-Ask-clause-fits
returns-in_ok-put-in-Ask-clause-fits g c =
    complete_fits g.D.Desk c.args.writer.now c.stepped.new.writer c.put.new.writer c.closed.new.writer c.in-Ask.call c.args.office.now c.put.new.office _ c.closed.result c.in_ok-action.ensures.1 c.in_ok-put-in-Ask.ensures c.closed.ensures

pub returns-in_default-clause-fits : goal.returns-in_default-clause-fits
returns-in_default-clause-fits g c = stepped_fits c.args.writer.now c.stepped.new.writer c.in_ok-action.ensures.1
