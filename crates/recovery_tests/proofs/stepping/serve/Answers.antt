-- The roads know what they knew.
use Rattle.recovery_tests.proofs.stepping.serve.Goals as goal

pub returns : goal.returns
returns g c = λ conn h. c.pass-2.ensures.kept conn (c.pass.ensures.kept conn h)
