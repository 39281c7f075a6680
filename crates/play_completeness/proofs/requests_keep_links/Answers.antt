use Rattle.play_completeness.proofs.Asking.{requests-keep}
use Rattle.play_completeness.proofs.requests_keep_links.Goals as goal

pub returns : goal.returns
returns c = requests-keep
