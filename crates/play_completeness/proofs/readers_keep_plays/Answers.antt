use Rattle.play_completeness.proofs.Keeping.{readers-keep}
use Rattle.play_completeness.proofs.readers_keep_plays.Goals as goal

pub returns : goal.returns
returns c = readers-keep
