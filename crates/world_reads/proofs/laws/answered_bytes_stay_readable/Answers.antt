use Rattle.world.specs.Events.{run}
use Rattle.world.specs.Worlds.{start}
use Rattle.world_reads.proofs.Reading.{stays-readable}
use Rattle.world_reads.proofs.laws.answered_bytes_stay_readable.Goals as goal

pub returns : goal.returns
returns c = stays-readable (run (start c.args.schedule.now.nodes) c.args.schedule.now.events) c.kept_law.ensures
