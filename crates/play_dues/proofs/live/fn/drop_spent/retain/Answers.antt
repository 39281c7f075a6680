-- It isn't spent.
use Rattle.std.proofs.Common.{ap}
use Rattle.std.specs.Prelude.{not}
use Rattle.play_dues.proofs.live.fn.drop_spent.retain.Goals as goal

pub returns : goal.returns
returns g c = λ w net h. ap (λ b. not b) (c.is_spent.ensures w net h)
