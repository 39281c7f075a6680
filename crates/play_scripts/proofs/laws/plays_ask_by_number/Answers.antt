-- The law is proved of definitions alone.
use Rattle.play_scripts.proofs.AskLemmas.{plays_ask}
use Rattle.play_scripts.proofs.laws.plays_ask_by_number.Goals as goal

pub returns : goal.returns
returns c = plays_ask
