use Rattle.std.proofs.Common.{arith}
use Rattle.world_writers.proofs.Kept.{kept}
use Rattle.world_writers.proofs.kept_law.Goals as goal

pub returns : goal.returns
returns c = kept c.args.schedule.now.nodes c.args.schedule.now.events (omega arith)
