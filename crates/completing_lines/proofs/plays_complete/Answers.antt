-- Plays without failures complete.
use Rattle.completing_lines.proofs.Assembly.{plays-complete}
use Rattle.completing_lines.proofs.plays_complete.Goals as goal

pub returns : goal.returns
returns c = plays-complete
