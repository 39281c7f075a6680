-- A dial was answered where no end was kept.
use Rattle.std.proofs.Common.{sym, ◌∙◌, rules}
use Rattle.pipe_recovery.proofs.DialLaws.{opens-new}
use Rattle.pipe_recovery.proofs.rebuilding.Rebuild.open.Goals as goal

pub returns-in-Ok-dial-clause-opens : goal.returns-in-Ok-dial-clause-opens
returns-in-Ok-dial-clause-opens g c =
    opens-new g.R.Roads g.I.LinkIn g.O.LinkOut c.args.port c.args.self.now.link c.args.roads.now c.dial.new.self c.in-Ok-dial.end c.in-Ok.heard
    (sym c.is_some.ensures ∙ c.if-is_some.false) c.in-Ok-dial.ensures.cause.nobody (search rules) c.in-Ok.ensures
