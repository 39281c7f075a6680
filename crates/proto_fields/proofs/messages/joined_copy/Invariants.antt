-- The parts of the fields that are behind are joined.
use Rattle.std.proofs.Common.{◌≡◌, take}
use Rattle.proto_fields.specs.Values.{joined_parts}
use Rattle.proto_fields.proofs.messages.joined_copy.Given as goal

abbrev pub invariant-loop-number : goal.invariant-loop-number
invariant-loop-number l = l.joined.items ≡ joined_parts l.bytes l.field (take l.number-index l.number-items)
