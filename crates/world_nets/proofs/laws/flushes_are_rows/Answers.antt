use Rattle.world_nets.proofs.RowLemmas.{flushed}
use Rattle.world_nets.proofs.laws.flushes_are_rows.Goals as goal

pub returns : goal.returns
returns c = flushed
