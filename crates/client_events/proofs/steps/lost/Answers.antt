-- The end was brought back, or wasn't.
use Rattle.client_events.proofs.PassLaws.{pass_by}
use Rattle.client_events.proofs.steps.lost.Goals as goal

pub returns-in-Ok-clause-passes : goal.returns-in-Ok-clause-passes
returns-in-Ok-clause-passes g c = pass_by g.R.Roads g.I.LinkIn g.O.LinkOut c.args.roads.now c.bring.new.self c.bring.ensures.connections c.bring.ensures.cause.never_falls

pub returns-in-Err-clause-passes : goal.returns-in-Err-clause-passes
returns-in-Err-clause-passes g c = pass_by g.R.Roads g.I.LinkIn g.O.LinkOut c.args.roads.now c.bring.new.self c.bring.ensures.connections c.bring.ensures.cause.never_falls
