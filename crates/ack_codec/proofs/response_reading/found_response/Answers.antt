-- The last part of a number lies within the message.
use Rattle.std.proofs.Common.{subst, sym, arith}
use Rattle.std.specs.Prelude.{length}
use Rattle.hd_base.proofs.ResultLaws.{with_cause_ok}
use Rattle.proto_fields.specs.Fields.{fields_at}
use Rattle.proto_fields.specs.Inner.{PlacedWithin}
use Rattle.proto_fields.specs.declared.listing.FieldsFault.TheVariants as fault
use Rattle.proto_fields.proofs.InnerLemmas.{last_part_placed}
use Rattle.ack_codec.proofs.response_reading.found_response.Goals as goal

pub returns-clause-first_bad : goal.returns-clause-first_bad
returns-clause-first_bad c =
    subst (PlacedWithin (length c.args.message.now)) (sym c.part.ensures)
    (last_part_placed c.args.message.now c.in_ok-listed.listed 2 (λ i. omega (arith, c.type_inv.message i)) (with_cause_ok fault.Wire (fields_at c.args.message.now) c.in_ok-listed.listed (sym c.in_ok-listed.ensures.exact)))

pub returns-clause-message : goal.returns-clause-message
returns-clause-message c =
    subst (PlacedWithin (length c.args.message.now)) (sym c.part-2.ensures)
    (last_part_placed c.args.message.now c.in_ok-listed.listed 5 (λ i. omega (arith, c.type_inv.message i)) (with_cause_ok fault.Wire (fields_at c.args.message.now) c.in_ok-listed.listed (sym c.in_ok-listed.ensures.exact)))
