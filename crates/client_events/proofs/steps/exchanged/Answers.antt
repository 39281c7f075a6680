-- The end was exchanged, or wasn't.
use Rattle.link_pieces.specs.Roads.{names}
use Rattle.member_events.proofs.PassLaws.{pass_exchanged}
use Rattle.client_events.proofs.steps.exchanged.Goals as goal

pub returns-in-Ok-clause-passes : goal.returns-in-Ok-clause-passes
returns-in-Ok-clause-passes g c = pass_exchanged g.R.Roads g.I.LinkIn g.O.LinkOut (names c.args.take c.args.end.id) c.args.end c.exchange_end.new.end c.args.roads.now c.exchange_end.new.roads c.exchange_end.result c.exchange_end.ensures

pub returns-in-Err-clause-passes : goal.returns-in-Err-clause-passes
returns-in-Err-clause-passes g c = pass_exchanged g.R.Roads g.I.LinkIn g.O.LinkOut (names c.args.take c.args.end.id) c.args.end c.exchange_end.new.end c.args.roads.now c.exchange_end.new.roads c.exchange_end.result c.exchange_end.ensures
