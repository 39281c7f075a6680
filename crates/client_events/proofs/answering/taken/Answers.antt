-- The connection was exchanged, or wasn't.
use Rattle.client_events.proofs.PassLaws.{pass_link}
use Rattle.client_events.proofs.answering.taken.Goals as goal

pub returns-in-Ok-clause-passes : goal.returns-in-Ok-clause-passes
returns-in-Ok-clause-passes g c = pass_link g.R.Roads g.I.LinkIn g.O.LinkOut c.conn-conn.result c.args.setup.link c.exchange.new.self.link c.args.roads.now c.exchange.new.roads c.exchange.result c.exchange.ensures

pub returns-in-Err-clause-passes : goal.returns-in-Err-clause-passes
returns-in-Err-clause-passes g c = pass_link g.R.Roads g.I.LinkIn g.O.LinkOut c.conn-conn.result c.args.setup.link c.exchange.new.self.link c.args.roads.now c.exchange.new.roads c.exchange.result c.exchange.ensures
