-- The connection was exchanged, or wasn't.
use Rattle.std.proofs.Common.{None}
use Rattle.client_events.proofs.PassLaws.{pass_link, link_known}
use Rattle.client_events.proofs.setting_up.flushed.Goals as goal

pub returns-in-Ok-clause-passes : goal.returns-in-Ok-clause-passes
returns-in-Ok-clause-passes g c = pass_link g.R.Roads g.I.LinkIn g.O.LinkOut None c.args.setup.link c.exchange.new.self.link c.args.roads.now c.exchange.new.roads c.exchange.result c.exchange.ensures

pub returns-in-Err-clause-passes : goal.returns-in-Err-clause-passes
returns-in-Err-clause-passes g c = pass_link g.R.Roads g.I.LinkIn g.O.LinkOut None c.args.setup.link c.exchange.new.self.link c.args.roads.now c.exchange.new.roads c.exchange.result c.exchange.ensures

pub returns-in-Ok-clause-known : goal.returns-in-Ok-clause-known
returns-in-Ok-clause-known g c = link_known g.R.Roads g.I.LinkIn g.O.LinkOut None c.args.setup.link c.exchange.new.self.link c.args.roads.now c.exchange.new.roads c.exchange.result c.exchange.ensures c.requires
