-- By the bound on a number's digits.
use Rattle.std.proofs.Common.{arith}
use Rattle.std.proofs.lemmas.Fmt.{length-decimal-le}
use Rattle.pipe_setup.specs.RequestRefusals.Texts.{spaced}
use Rattle.pipe_member.proofs.answers.number_is_short.Goals as goal

pub returns : goal.returns
unfolding spaced
returns c = omega (arith, length-decimal-le 20 c.args.number (omega arith) (omega (arith, c.ranges.number.fits)) (omega (arith, c.ranges.number.fits)))
