use Rattle.play_completeness.proofs.DownTurns.{packets-keep}
use Rattle.play_completeness.proofs.packets_keep_links.Goals as goal

pub returns : goal.returns
returns c = packets-keep
