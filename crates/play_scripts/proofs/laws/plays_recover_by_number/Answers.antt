-- The law is proved of definitions alone.
use Rattle.play_scripts.proofs.RecoveryLemmas.{plays_recover}
use Rattle.play_scripts.proofs.laws.plays_recover_by_number.Goals as goal

pub returns : goal.returns
returns c = plays_recover
