-- It takes requests alone.
use Rattle.play_servers.proofs.DueLaws.{waits}
use Rattle.play_servers.proofs.dues.answers_wait.Goals as goal

pub returns : goal.returns
returns g c = waits g.I.LinkIn g.O.LinkOut
