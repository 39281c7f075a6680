-- Each turn takes one field, which has a part of the number or has none.
use Rattle.std.proofs.Common.{ℕ, arith, sym, ap, ◌∙◌}
use Rattle.proto_fields.specs.Inner.{places_of, one_more}
use Rattle.proto_fields.proofs.ValueLemmas.{parts-none, parts-some, places_of-more}
use Rattle.proto_fields.proofs.messages.places_under.Goals as goal

pub loop-number-preserved-in_default : goal.loop-number-preserved-in_default
loop-number-preserved-in_default c =
    let none = parts-none c.args.field c.args.entries.now c.loop-number.number-index _ (omega arith) (sym c.part_under.ensures ∙ c.in_default.is) in
    c.loop-number.invariant ∙ ap places_of (sym none)

pub loop-number-preserved : goal.loop-number-preserved
loop-number-preserved c =
    let p : ℕ × ℕ = (c.in-Some.from, c.in-Some.to) in
    let some = parts-some c.args.field c.args.entries.now c.loop-number.number-index _ p (omega arith) (sym c.part_under.ensures ∙ c.in-Some.is) in
    c.with-places.ensures
    ∙ (ap (λ q. one_more q p) c.loop-number.invariant
    ∙ (sym (places_of-more _ p) ∙ ap places_of (sym some)))
