-- The connection was exchanged, and its dial accepted.
use Rattle.member_events.proofs.SetupKnown.{pass_on}
use Rattle.client_events.proofs.setting_up.met.Goals as goal

pub returns-clause-passes : goal.returns-clause-passes
returns-clause-passes g c = pass_on g.R.Roads g.I.LinkIn g.O.LinkOut c.args.roads.now c.flushed.new.roads c.accepted.new.roads c.flushed.ensures.passes c.accepted.ensures.passes
