use Rattle.play_settling.proofs.Failing.{writes-may-fail}
use Rattle.play_settling.proofs.writes_may_fail.Goals as goal

pub returns : goal.returns
returns c = writes-may-fail
