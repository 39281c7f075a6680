-- The primary has sent the UPDATEs, and waits for no answer.
use Rattle.std.proofs.Common.{sym, ap, ◌∙◌}
use Rattle.recovery_core.specs.Primaries.{PrimaryState}
use Rattle.recovery_core.proofs.CommitLemmas.{commits_so}
use Rattle.recovery_core.proofs.primary.Primary.commits.Goals as goal

pub returns-then-not-waits : goal.returns-then-not-waits
returns-then-not-waits c =
    c.has_updated.ensures ∙ commits_so c.args.self.now c.in-Updating.length c.waits.result (ap (λ (p : PrimaryState). p.phase) (sym c.self.view_is) ∙ c.in-Updating.is) c.waits.ensures c.if-not-waits.true
