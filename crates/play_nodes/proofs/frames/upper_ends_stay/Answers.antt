-- The end isn't taken at an upper end.
use Rattle.play_nodes.proofs.WriterKeeping.{uppers_stay}
use Rattle.play_nodes.proofs.frames.upper_ends_stay.Goals as goal

pub returns : goal.returns
returns c = uppers_stay
