-- The parts of the fields that are behind lie at these places.
use Rattle.std.proofs.Common.{◌≡◌, take}
use Rattle.proto_fields.specs.Values.{parts}
use Rattle.proto_fields.specs.Inner.{places_of}
use Rattle.proto_fields.proofs.messages.places_under.Given as goal

abbrev pub invariant-loop-number : goal.invariant-loop-number
invariant-loop-number l = l.places ≡ places_of (parts l.field (take l.number-index l.entries))
