-- The number is the last one of the fields that are behind.
use Rattle.std.proofs.Common.{◌≡◌, ◌<◌, None, fold, take}
use Rattle.std.specs.Prelude.{IfSome}
use Rattle.proto_fields.specs.Values.{newer}
use Rattle.op_headers.specs.Tables.{Below, number_of}
use Rattle.op_headers.proofs.messages.small_under.Given as goal

abbrev pub invariant-loop-number : goal.invariant-loop-number
invariant-loop-number l = (l.last ≡ fold (newer (number_of (Below l.bound)) l.field) None (take l.number-index l.number-items)) × IfSome l.last (λ n. n < l.bound)
