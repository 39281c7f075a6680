-- There is an end to the mirror.
use Rattle.std.proofs.Common.{rules}
use Rattle.pipe_member.proofs.below.Below.look_at.Goals as goal

pub returns : goal.returns
returns g c = rw c.in-Some.is (search rules)
