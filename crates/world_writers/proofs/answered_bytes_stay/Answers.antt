use Rattle.std.proofs.Common.{arith}
use Rattle.world_writers.proofs.Staying.{answered-stay}
use Rattle.world_writers.proofs.answered_bytes_stay.Goals as goal

pub returns : goal.returns
returns c = answered-stay c.args.schedule.now.nodes c.args.schedule.now.events (omega arith)
