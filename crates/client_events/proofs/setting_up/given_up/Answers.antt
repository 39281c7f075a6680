-- The connection was brought back, or wasn't.
use Rattle.client_events.proofs.PassLaws.{pass_retired}
use Rattle.client_events.proofs.setting_up.given_up.Goals as goal

pub returns-in-Ok-clause-passes : goal.returns-in-Ok-clause-passes
returns-in-Ok-clause-passes g c = pass_retired g.R.Roads g.I.LinkIn g.O.LinkOut c.args.setup.link c.args.roads.now c.retire.new.roads c.retire.result c.retire.ensures

pub returns-in-Err-clause-passes : goal.returns-in-Err-clause-passes
returns-in-Err-clause-passes g c = pass_retired g.R.Roads g.I.LinkIn g.O.LinkOut c.args.setup.link c.args.roads.now c.retire.new.roads c.retire.result c.retire.ensures
