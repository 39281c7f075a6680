-- A report that was written wholly is one of words that break no rule.
use Rattle.std.proofs.Common.{map, sym, ◌∙◌}
use Rattle.std.specs.String.{string_bytes}
use Rattle.std.specs.Global.{Global}
use Rattle.dn_run.specs.Tasks.{task_of}
use Rattle.dn_run.proofs.RunLaws.{told_usage}
use Rattle.dn_run.proofs.standard.run_with.Goals as goal

pub returns-then-is_err : goal.returns-then-is_err
returns-then-is_err g c = told_usage (task_of (map (string_bytes {Z = Global}) c.args.words.now)) c.run-exit.result (sym c.is_told.ensures ∙ c.if-is_told.true) c.run-exit.ensures.usage
