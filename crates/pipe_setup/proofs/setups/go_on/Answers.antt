-- There is a mirror.
use Rattle.std.proofs.Common.{sym, ◌∙◌}
use Rattle.pipe_setup.specs.Reaching.{unsent}
use Rattle.pipe_setup.proofs.ReachingLemmas.{some_targets}
use Rattle.pipe_setup.proofs.setups.go_on.Goals as goal

pub returns-in-Ok-clause-goes_on : goal.returns-in-Ok-clause-goes_on
returns-in-Ok-clause-goes_on g c = (
  some_targets c.args.op.now.targets (sym c.is_last.ensures ∙ c.if-is_last.false),
  record { middle = c.reach_mirror.new.roads; end = c.in-Unsent.end; unsent = c.in-Unsent.ensures; lost = c.in-Ok.ensures },
)

pub returns-in-Err-clause-goes_on : goal.returns-in-Err-clause-goes_on
returns-in-Err-clause-goes_on g c = (
  some_targets c.args.op.now.targets (sym c.is_last.ensures ∙ c.if-is_last.false),
  unsent c.reach_mirror.new.roads c.in-Unsent.end c.in-Err.field-0 c.in-Unsent.ensures c.in-Err.ensures,
)

pub returns-in-Memory-clause-goes_on : goal.returns-in-Memory-clause-goes_on
returns-in-Memory-clause-goes_on g c = (some_targets c.args.op.now.targets (sym c.is_last.ensures ∙ c.if-is_last.false), c.in-Memory.ensures)
