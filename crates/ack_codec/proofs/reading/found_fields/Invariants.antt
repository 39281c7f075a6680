-- A walk on from here ends as the walk over the whole message does.
use Rattle.std.proofs.Common.{◌≡◌, ◌-◌, ◌≤◌, length}
use Rattle.proto_fields.specs.Fields.{walked}
use Rattle.ack_codec.specs.Acks.{newer_found, none_found}
use Rattle.ack_codec.proofs.reading.found_fields.Given as goal

abbrev pub invariant-loop-number : goal.invariant-loop-number
invariant-loop-number l = (l.at ≤ length l.message) × (walked (newer_found l.message) l.found l.message l.at ≡ walked (newer_found l.message) none_found l.message 0)

abbrev pub decreases-loop-number : goal.decreases-loop-number
decreases-loop-number l = length l.message - l.at
