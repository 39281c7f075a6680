-- A walk on from here ends as the walk over the whole message does.
use Rattle.std.proofs.Common.{◌≡◌, ◌-◌, ◌≤◌, length}
use Rattle.proto_fields.specs.Fields.{walked}
use Rattle.proto_fields.specs.Values.{newer_values, no_values}
use Rattle.proto_fields.proofs.listing.last_values.Given as goal

abbrev pub invariant-loop-number : goal.invariant-loop-number
invariant-loop-number l = (l.at ≤ length l.bytes) × (walked (newer_values l.field) l.last l.bytes l.at ≡ walked (newer_values l.field) no_values l.bytes 0)

abbrev pub decreases-loop-number : goal.decreases-loop-number
decreases-loop-number l = length l.bytes - l.at
