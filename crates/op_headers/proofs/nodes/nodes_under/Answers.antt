-- Each turn takes one field, which has a part of the number or has none.
use Rattle.std.proofs.Common.{◌+◌, ◌≤◌, Ok, length, drop, map, ap, sym, ◌∙◌, arith, rules}
use Rattle.hd_base.specs.Results.{with_value}
use Rattle.proto_fields.specs.Values.{part_bytes}
use Rattle.hd_base.proofs.ResultLaws.{ok_value}
use Rattle.proto_fields.proofs.ValueLemmas.{part_within}
use Rattle.op_headers.specs.Tables.{each_at, texts_under}
use Rattle.op_headers.specs.Formats.{node_format}
use Rattle.op_headers.proofs.ReadLemmas.{was_read}
use Rattle.op_headers.proofs.EachLemmas.{decoded_joined, parts-skip, parts-take, each-step}
use Rattle.op_headers.proofs.nodes.nodes_under.Goals as goal
use Rattle.op_headers.proofs.nodes.nodes_under.Goals.{In-Some}

-- the part of this turn lies within the bytes
within : (c : In-Some) → (c.in-Some.from ≤ c.in-Some.to) × (c.in-Some.to ≤ length c.args.bytes.now)
within c =
    part_within c.args.bytes.now c.entries-number-items.result.now c.args.field c.loop-number.number-index _ (c.in-Some.from, c.in-Some.to)
    (λ i. omega (arith, c.type_inv.bytes i)) (c.requires ∙ ap Ok (sym c.entries-number-items.ensures)) (omega arith) (sym c.part_under.ensures ∙ c.in-Some.is)

pub slice_bounds-read-count : goal.slice_bounds-read-count
slice_bounds-read-count c = (within (goal.at.slice_bounds-read-count c).In-Some).0

pub slice_bounds-read-start : goal.slice_bounds-read-start
slice_bounds-read-start c =
    let w = within (goal.at.slice_bounds-read-start c).In-Some in
    search (rules, w.0)

pub slice_bounds-read-end : goal.slice_bounds-read-end
slice_bounds-read-end c =
    let w = within (goal.at.slice_bounds-read-end c).In-Some in
    search (rules, w.1)

pub loop-number-preserved-in_default : goal.loop-number-preserved-in_default
loop-number-preserved-in_default c =
    let skip = parts-skip c.args.field c.loop-number.number-index c.entries-number-items.result.now _ (omega arith) (sym c.part_under.ensures ∙ c.in_default.is) in
    ap (λ ps. with_value (decoded_joined c.loop-number.decoded) (each_at node_format.read (map (part_bytes c.args.bytes.now) ps))) (sym skip) ∙ c.loop-number.invariant

pub loop-number-preserved : goal.loop-number-preserved
loop-number-preserved c =
    let bytes = c.args.bytes.now in
    let fs = c.entries-number-items.result.now in
    let i = c.loop-number.number-index in
    let taken = parts-take c.args.field i fs _ (c.in-Some.from, c.in-Some.to) (omega arith) (sym c.part_under.ensures ∙ c.in-Some.is) in
    ap (λ t. with_value (decoded_joined t) (each_at node_format.read (texts_under c.args.field bytes (drop (i + 1) fs)))) (ok_value _ _ c.in_ok-decoded.ensures)
    ∙ (sym (ap (λ ps. with_value (decoded_joined c.loop-number.decoded) (each_at node_format.read (map (part_bytes bytes) ps))) taken
    ∙ each-step node_format.read c.loop-number.decoded (part_bytes bytes (c.in-Some.from, c.in-Some.to)) (texts_under c.args.field bytes (drop (i + 1) fs)) c.in_ok-node.node (was_read _ _ c.in_ok-node.ensures))
    ∙ c.loop-number.invariant)
