use Rattle.completing_lines.proofs.Following.{opened-follows, commands-follow}
use Rattle.completing_lines.proofs.lines_give_commands_that_fit.Goals as goal

pub returns : goal.returns
returns c = record { opened = opened-follows; command = commands-follow }
