-- Each turn takes one field, which has a part of the number or has none.
use Rattle.std.proofs.Common.{◌≤◌, ◌++◌, Ok, length, ap, sym, ◌∙◌, arith, rules}
use Rattle.std.specs.List.{flat_map}
use Rattle.proto_fields.specs.Values.{part_bytes}
use Rattle.proto_fields.proofs.ValueLemmas.{parts-none, joined_parts-some, part_within}
use Rattle.proto_fields.proofs.messages.joined_copy.Goals as goal
use Rattle.proto_fields.proofs.messages.joined_copy.Goals.{In-Some}

-- the part of this turn lies within the bytes
within : (c : In-Some) → (c.in-Some.from ≤ c.in-Some.to) × (c.in-Some.to ≤ length c.args.bytes.now)
within c =
    part_within c.args.bytes.now c.entries-number-items.result.now c.args.field c.loop-number.number-index _ (c.in-Some.from, c.in-Some.to)
    (λ i. omega (arith, c.type_inv.bytes i)) (c.requires ∙ ap Ok (sym c.entries-number-items.ensures)) (omega arith) (sym c.part_under.ensures ∙ c.in-Some.is)

pub slice_bounds-extend_from_slice-count : goal.slice_bounds-extend_from_slice-count
slice_bounds-extend_from_slice-count c = (within (goal.at.slice_bounds-extend_from_slice-count c).In-Some).0

pub slice_bounds-extend_from_slice-start : goal.slice_bounds-extend_from_slice-start
slice_bounds-extend_from_slice-start c =
    let w = within (goal.at.slice_bounds-extend_from_slice-start c).In-Some in
    search (rules, w.0)

pub slice_bounds-extend_from_slice-end : goal.slice_bounds-extend_from_slice-end
slice_bounds-extend_from_slice-end c =
    let w = within (goal.at.slice_bounds-extend_from_slice-end c).In-Some in
    search (rules, w.1)

pub loop-number-preserved-in_default : goal.loop-number-preserved-in_default
loop-number-preserved-in_default c =
    let none = parts-none c.args.field c.entries-number-items.result.now c.loop-number.number-index _ (omega arith) (sym c.part_under.ensures ∙ c.in_default.is) in
    c.loop-number.invariant ∙ ap (flat_map (part_bytes c.args.bytes.now)) (sym none)

pub loop-number-preserved : goal.loop-number-preserved
loop-number-preserved c =
    let fs = c.entries-number-items.result.now in
    let i = c.loop-number.number-index in
    let here = sym c.part_under.ensures ∙ c.in-Some.is in
    c.in_ok-extend_from_slice.ensures.items
    ∙ (ap (λ l. l ++ part_bytes c.args.bytes.now (c.in-Some.from, c.in-Some.to)) c.loop-number.invariant
    ∙ sym (joined_parts-some c.args.bytes.now c.args.field fs i _ (c.in-Some.from, c.in-Some.to) (omega arith) here))
