-- The entries so far and the fields from here on are those of the whole message.
use Rattle.std.proofs.Common.{◌≡◌, ◌++◌, ◌-◌, ◌≤◌, length}
use Rattle.hd_base.specs.Results.{with_value}
use Rattle.proto_fields.specs.Fields.{fields_from, fields_at}
use Rattle.proto_fields.proofs.listing.listed.Given as goal

abbrev pub invariant-loop-entries : goal.invariant-loop-entries
invariant-loop-entries l = (l.at ≤ length l.bytes) × (with_value (λ fs. l.entries.items ++ fs) (fields_from l.bytes l.at) ≡ fields_at l.bytes)

abbrev pub decreases-loop-entries : goal.decreases-loop-entries
decreases-loop-entries l = length l.bytes - l.at
