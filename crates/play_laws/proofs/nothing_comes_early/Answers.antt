use Rattle.play_laws.proofs.Early.{nothing-early}
use Rattle.play_laws.proofs.nothing_comes_early.Goals as goal

pub returns : goal.returns
returns c = nothing-early
