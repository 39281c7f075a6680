use Rattle.std.proofs.Common.{arith}
use Rattle.world_syncs.proofs.Taken.{all-taken}
use Rattle.world_syncs.proofs.hsyncs_were_taken.Goals as goal

pub returns : goal.returns
returns c = all-taken c.args.schedule.now.nodes c.args.schedule.now.events (omega arith)
