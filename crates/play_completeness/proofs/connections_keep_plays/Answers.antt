use Rattle.play_completeness.proofs.Keeping.{conns-keep}
use Rattle.play_completeness.proofs.connections_keep_plays.Goals as goal

pub returns : goal.returns
returns c = conns-keep
