-- What the client tells of its own step.
use Rattle.std.proofs.Common.{not, ap, sym, ◌∙◌}
use Rattle.play_primaries.specs.Clients.{can_act}
use Rattle.play_primaries.proofs.DueLaws.{step_tells}
use Rattle.play_primaries.proofs.clients.PrimaryClient.has_step.Goals as goal

pub returns-in-New-clause-tells : goal.returns-in-New-clause-tells
returns-in-New-clause-tells g c = step_tells g.I.LinkIn g.O.LinkOut c.args.self.now c.args.self.now.recovery.may_begin (sym (ap (can_act c.args.self.now.recovery.may_begin) c.in-New.is))

pub returns-in-Leads-clause-tells : goal.returns-in-Leads-clause-tells
returns-in-Leads-clause-tells g c = step_tells g.I.LinkIn g.O.LinkOut c.args.self.now (not c.waits.result) (ap not c.waits.ensures ∙ sym (ap (can_act c.args.self.now.recovery.may_begin) c.in-Leads.is))
