use Rattle.world_finals.proofs.AllFinal.{all-final}
use Rattle.world_finals.proofs.final_lengths_are_kept.Goals as goal

pub returns : goal.returns
returns c = all-final
