-- Each call has one byte less.
use Rattle.std.proofs.Common.{length}
use Rattle.hd_base.proofs.file_name.+digits.Given as goal

abbrev pub decreases-digits : goal.decreases-digits
decreases-digits l = length l.text.now
