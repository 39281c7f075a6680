-- Counting on from here ends as counting the whole list does.
use Rattle.std.proofs.Common.{◌≡◌, ◌≤◌, length}
use Rattle.std.specs.Prelude.{fold}
use Rattle.hd_base.specs.Results.{with_value}
use Rattle.ack_codec.specs.Packed.{numbers_from, numbers_at}
use Rattle.ack_codec.specs.Tallies.{counted}
use Rattle.ack_codec.proofs.tallies.Tally.with_list.Given as goal

abbrev pub invariant-loop-rest : goal.invariant-loop-rest
invariant-loop-rest l = (length l.rest ≤ length l.list) × (with_value (fold counted l.self) (numbers_from (length l.list) l.rest) ≡ with_value (fold counted l.fn.self) (numbers_at l.list))

abbrev pub decreases-loop-rest : goal.decreases-loop-rest
decreases-loop-rest l = length l.rest
