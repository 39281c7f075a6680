use Rattle.std.proofs.Common.{arith}
use Rattle.world_writers.proofs.Kept.{latest-stay}
use Rattle.world_writers.proofs.latest_answers_stay.Goals as goal

pub returns : goal.returns
returns c = latest-stay c.args.schedule.now.nodes c.args.schedule.now.events (omega arith)
