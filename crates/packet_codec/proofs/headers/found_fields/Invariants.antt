-- A walk on from here ends as the walk over the whole message does.
use Rattle.std.proofs.Common.{◌≡◌, ◌-◌, ◌≤◌, length}
use Rattle.proto_fields.specs.Fields.{walked}
use Rattle.packet_codec.specs.Headers.{newer_found, none_found}
use Rattle.packet_codec.proofs.headers.found_fields.Given as goal

abbrev pub invariant-loop-number : goal.invariant-loop-number
invariant-loop-number l = (l.at ≤ length l.bytes) × (walked newer_found l.found l.bytes l.at ≡ walked newer_found none_found l.bytes 0)

abbrev pub decreases-loop-number : goal.decreases-loop-number
decreases-loop-number l = length l.bytes - l.at
