-- Each turn lists one field more.
use Rattle.std.proofs.Common.{◌≡◌, ℕ, List, ◌++◌, Ok, Err, Some, None, inr, ap, sym, ◌∙◌}
use Rattle.std.proofs.lemmas.Result.{err_from_is_err_and}
use Rattle.proto_fields.specs.declared.reading.Wire.{Wire}
use Rattle.proto_fields.specs.declared.listing.FieldsFault.TheVariants as fault
use Rattle.hd_base.specs.Results.{with_cause, with_value}
use Rattle.proto_fields.specs.Fields.{next_at, fields_from}
use Rattle.proto_fields.proofs.PlaceLemmas.{next_at-room, listed_field, listed_end, listed_fault}
use Rattle.proto_fields.proofs.listing.listed.Goals as goal

pub returns-in_err-number : goal.returns-in_err-number
returns-in_err-number c =
    let p = err_from_is_err_and c.from_residual.result c.from_residual.ensures.1 in
    let h : next_at c.args.bytes.now c.loop-entries.at ≡ Err c.in_err-number.field-0.0 = cc (c.next_field.ensures.exact, c.in_err-number.was) in
    rw (p.1, p.2)
    (inr (sym (ap (with_cause fault.Wire) (sym c.loop-entries.invariant.1 ∙ listed_fault c.args.bytes.now c.loop-entries.at c.loop-entries.entries.items _ c.loop-entries.invariant.0 h))))

pub loop-entries-preserved : goal.loop-entries-preserved
loop-entries-preserved c =
    let bytes = c.args.bytes.now in
    let h : next_at bytes c.loop-entries.at ≡ Ok (Some (c.in-Some.number, c.in-Some.value, c.in-Some.next)) = cc (c.next_field.ensures.exact, c.in_ok-number.was, c.in-Some.is) in (
      (next_at-room bytes c.loop-entries.at _ c.loop-entries.invariant.0 h).1,
      ap (λ (items : List (ℕ × Wire)). with_value (λ fs. items ++ fs) (fields_from bytes c.in-Some.next)) c.in_ok-push.ensures.items
          ∙ (listed_field bytes c.loop-entries.at c.loop-entries.entries.items _ c.loop-entries.invariant.0 h
          ∙ c.loop-entries.invariant.1),
    )

pub returns : goal.returns
returns c =
    let h : next_at c.args.bytes.now c.loop-entries.at ≡ Ok None = cc (c.next_field.ensures.exact, c.in_ok-number.was, c.in_default.is) in
    sym (ap (with_cause fault.Wire) (sym c.loop-entries.invariant.1 ∙ listed_end c.args.bytes.now c.loop-entries.at c.loop-entries.entries.items c.loop-entries.invariant.0 h))
