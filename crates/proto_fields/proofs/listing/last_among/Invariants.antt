-- The values are the last ones of the fields that are behind.
use Rattle.std.proofs.Common.{◌≡◌, fold, take}
use Rattle.proto_fields.specs.Values.{newer_values, no_values}
use Rattle.proto_fields.proofs.listing.last_among.Given as goal

abbrev pub invariant-loop-number : goal.invariant-loop-number
invariant-loop-number l = l.last ≡ fold (newer_values l.field) no_values (take l.number-index l.entries)
