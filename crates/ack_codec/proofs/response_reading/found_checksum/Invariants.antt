-- A walk on from here ends as the walk over the whole message does.
use Rattle.std.proofs.Common.{◌≡◌, ◌-◌, ◌≤◌, length}
use Rattle.proto_fields.specs.Fields.{walked}
use Rattle.ack_codec.specs.Responses.{newer_checksum, no_checksum}
use Rattle.ack_codec.proofs.response_reading.found_checksum.Given as goal

abbrev pub invariant-loop-number : goal.invariant-loop-number
invariant-loop-number l = (l.at ≤ length l.bytes) × (walked newer_checksum l.found l.bytes l.at ≡ walked newer_checksum no_checksum l.bytes 0)

abbrev pub decreases-loop-number : goal.decreases-loop-number
decreases-loop-number l = length l.bytes - l.at
