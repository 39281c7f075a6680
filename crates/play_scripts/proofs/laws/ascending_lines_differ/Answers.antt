-- The law is proved of definitions alone.
use Rattle.play_scripts.proofs.NumberingLemmas.{ascending_differ}
use Rattle.play_scripts.proofs.laws.ascending_lines_differ.Goals as goal

pub returns : goal.returns
returns c = ascending_differ
