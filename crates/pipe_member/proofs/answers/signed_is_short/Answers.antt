-- By the bound on a number's digits, and its sign.
use Rattle.std.proofs.Common.{◌≤◌, ℤ, pos, negsuc, length, SFits, w64, arith}
use Rattle.std.proofs.lemmas.Fmt.{length_signed_le}
use Rattle.std.specs.Fmt.{signed_decimal}
use Rattle.pipe_setup.specs.RequestRefusals.Texts.{spaced_signed}
use Rattle.pipe_member.proofs.answers.signed_is_short.Goals as goal

signed : (z : ℤ) → SFits w64 z → length (signed_decimal z) ≤ 20
signed (pos n) h = length_signed_le 19 (pos n) (omega (arith, h.sfits)) (omega (arith, h.sfits))
signed (negsuc n) h = length_signed_le 19 (negsuc n) (omega (arith, h.sfits)) (omega (arith, h.sfits))

pub returns : goal.returns
unfolding spaced_signed
returns c = omega (arith, signed c.args.number c.ranges.number)
