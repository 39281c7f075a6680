-- Where an own step is enabled.
use Rattle.std.proofs.Common.{◌∙◌}
use Rattle.pipe_recovery.proofs.OwnLaws.{enabled-is}
use Rattle.pipe_recovery.proofs.reporting.has_own_step.Goals as goal

pub returns : goal.returns
returns c = c.is_enabled.ensures ∙ enabled-is c.args.writer.now c.requires
