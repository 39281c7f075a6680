use Rattle.world_settling.proofs.Outer.{outer-keep}
use Rattle.world_settling.proofs.outer_events_keep.Goals as goal

pub returns : goal.returns
returns c = outer-keep
