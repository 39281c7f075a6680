-- A part that is alone lies within the bytes.
use Rattle.std.proofs.Common.{◌≤◌, length, ap, sym, ◌∙◌, arith, rules}
use Rattle.proto_fields.proofs.InnerLemmas.{once_within}
use Rattle.proto_fields.specs.Inner.{places_of}
use Rattle.proto_fields.specs.Values.{parts}
use Rattle.proto_fields.proofs.messages.merged.Goals as goal
use Rattle.proto_fields.proofs.messages.merged.Goals.{In-Once}

-- the part lies within the bytes
within : (c : In-Once) → (c.in-Once.from ≤ c.in-Once.to) × (c.in-Once.to ≤ length c.args.bytes.now)
within c =
    let once = ap (λ fs. places_of (parts c.args.field fs)) (sym c.entries.ensures) ∙ (sym c.places_under.ensures ∙ c.in-Once.is) in
    once_within c.args.bytes.now c.args.of.now c.args.field c.in-Once.from c.in-Once.to (λ i. omega (arith, c.type_inv.bytes i)) c.requires once

pub slice_bounds-result-count : goal.slice_bounds-result-count
slice_bounds-result-count c = (within (goal.at.slice_bounds-result-count c).In-Once).0

pub slice_bounds-result-start : goal.slice_bounds-result-start
slice_bounds-result-start c =
    let w = within (goal.at.slice_bounds-result-start c).In-Once in
    search (rules, w.0)

pub slice_bounds-result-end : goal.slice_bounds-result-end
slice_bounds-result-end c =
    let w = within (goal.at.slice_bounds-result-end c).In-Once in
    search (rules, w.1)
