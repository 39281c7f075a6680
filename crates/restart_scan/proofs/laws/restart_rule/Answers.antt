-- The laws are proved of definitions alone.
use Rattle.restart_scan.proofs.RestartLemmas.{restart_rule, failed_calls_are_found}
use Rattle.restart_scan.proofs.laws.restart_rule.Goals as goal

pub returns-clause-stopped : goal.returns-clause-stopped
returns-clause-stopped g c = restart_rule _

pub returns-clause-failed : goal.returns-clause-failed
returns-clause-failed g c = failed_calls_are_found _
