-- The last part of a number lies within the message.
use Rattle.std.proofs.Common.{subst, sym, arith}
use Rattle.std.specs.Prelude.{length}
use Rattle.proto_fields.specs.Inner.{PlacedWithin}
use Rattle.proto_fields.proofs.InnerLemmas.{last_part_placed}
use Rattle.op_headers.proofs.messages.text_under.Goals as goal

pub text_at-requires : goal.text_at-requires
text_at-requires c =
    subst (PlacedWithin (length c.args.bytes.now)) (sym c.part.ensures)
    (last_part_placed c.args.bytes.now c.args.listed.now c.args.field (λ i. omega (arith, c.type_inv.bytes i)) c.requires)
