-- Each turn is one step of the walk over the fields.
use Rattle.std.proofs.Common.{◌≡◌, Ok, Err, Some, None, ap, sym, ◌∙◌}
use Rattle.std.proofs.lemmas.Result.{err_from_is_err_and}
use Rattle.proto_fields.specs.Fields.{next_at, walked}
use Rattle.ack_codec.specs.Acks.{newer_found}
use Rattle.proto_fields.proofs.PlaceLemmas.{next_at-room, walked-end, walked-field, walked-fault}
use Rattle.ack_codec.proofs.reading.found_fields.Goals as goal

pub returns-in_err-number : goal.returns-in_err-number
returns-in_err-number c =
    let p = err_from_is_err_and c.from_residual.result c.from_residual.ensures.1 in
    let step = newer_found c.args.message.now in
    let h : next_at c.args.message.now c.loop-number.at ≡ Err c.in_err-number.field-0.0 = cc (c.next_field.ensures.exact, c.in_err-number.was) in
    rw (p.1, p.2)
    (sym (walked-fault step c.loop-number.found c.args.message.now c.loop-number.at _ c.loop-number.invariant.0 h)
    ∙ (c.loop-number.invariant.1))

pub loop-number-preserved : goal.loop-number-preserved
loop-number-preserved c =
    let bytes = c.args.message.now in
    let step = newer_found c.args.message.now in
    let h : next_at bytes c.loop-number.at ≡ Ok (Some (c.in-Some.number, c.in-Some.value, c.in-Some.next)) = cc (c.next_field.ensures.exact, c.in_ok-number.was, c.in-Some.is) in (
      (next_at-room bytes c.loop-number.at _ c.loop-number.invariant.0 h).1,
      ap (λ s. walked step s bytes c.in-Some.next) c.after-found.ensures
          ∙ (sym (walked-field step c.loop-number.found bytes c.loop-number.at _ c.loop-number.invariant.0 h)
          ∙ c.loop-number.invariant.1),
    )

pub returns : goal.returns
returns c =
    let step = newer_found c.args.message.now in
    let h : next_at c.args.message.now c.loop-number.at ≡ Ok None = cc (c.next_field.ensures.exact, c.in_ok-number.was, c.in_default.is) in
    sym (walked-end step c.loop-number.found c.args.message.now c.loop-number.at c.loop-number.invariant.0 h)
    ∙ (c.loop-number.invariant.1)
