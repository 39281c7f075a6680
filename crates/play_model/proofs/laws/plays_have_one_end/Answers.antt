-- A script is played to one end.
use Rattle.play_model.proofs.EndLemmas.{one_end}
use Rattle.play_model.proofs.laws.plays_have_one_end.Goals as goal

pub returns : goal.returns
returns c = one_end
