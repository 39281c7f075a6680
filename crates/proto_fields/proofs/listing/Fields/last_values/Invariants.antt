-- The values are the last ones of the fields that are behind.
use Rattle.std.proofs.Common.{◌≡◌, take}
use Rattle.proto_fields.specs.Values.{last_values_from}
use Rattle.proto_fields.proofs.listing.Fields.last_values.Given as goal

abbrev pub invariant-loop-number : goal.invariant-loop-number
invariant-loop-number g l = l.last ≡ last_values_from g.row.N 1 (take l.number-index l.number-items)
