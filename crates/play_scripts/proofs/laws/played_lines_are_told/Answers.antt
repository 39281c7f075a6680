-- A start, a read or a fault is played only where the shelves tell.
use Rattle.play_scripts.proofs.UnplayedLemmas.{played_told}
use Rattle.play_scripts.proofs.laws.played_lines_are_told.Goals as goal

pub returns : goal.returns
returns c = λ told lines played. played_told told lines played
