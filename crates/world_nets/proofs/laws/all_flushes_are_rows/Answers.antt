use Rattle.world_nets.proofs.FlushLemmas.{all_flushed}
use Rattle.world_nets.proofs.laws.all_flushes_are_rows.Goals as goal

pub returns : goal.returns
returns c = all_flushed
