use Rattle.chunk_sums.proofs.AheadLemmas.{get_or-drop-zeros}
use Rattle.chunk_sums.proofs.four.Lane.new.Goals as goal

pub returns-clause-near : goal.returns-clause-near
returns-clause-near g c = get_or-drop-zeros 0 240
