-- The replies so far.
use Rattle.std.proofs.Common.{◌≡◌, take}
use Rattle.member_core.specs.Acks.{with_own}
use Rattle.packet_responder.proofs.replies.with_own.Given as goal

abbrev pub invariant-loop-reply : goal.invariant-loop-reply
invariant-loop-reply l = l.all ≡ with_own (take l.reply-index l.replies)
