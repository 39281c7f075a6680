-- The statuses that are behind have their numbers.
use Rattle.std.proofs.Common.{◌≡◌, length, take, map}
use Rattle.ack_codec.specs.Replies.{status_code}
use Rattle.ack_codec.proofs.replies.codes.Given as goal

abbrev pub invariant-loop-i : goal.invariant-loop-i
invariant-loop-i l = (length l.codes ≡ 16) × (take l.i l.codes ≡ map status_code (take l.i l.statuses))
