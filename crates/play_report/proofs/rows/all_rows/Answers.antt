-- The rows of one node more, or a fault with its cause.
use Rattle.std.proofs.Common.{◌≡◌, ◌<◌, Err, get_or, length, refl, ap, ◌∙◌, arith}
use Rattle.std.specs.Prelude.{slice_set, min}
use Rattle.std.proofs.lemmas.Result.{err_from_is_err_and}
use Rattle.hd_base.specs.declared.numbers.NodeId.{NodeId}
use Rattle.play_scripts.proofs.NodeOpening.ListLemmas.{if_err, element_or}
use Rattle.play_report.specs.Rows.{LeavesBooks, IsNodesFault}
use Rattle.play_report.proofs.RowLemmas.{so_far_none, so_far_left, so_far_end, books_same, RowsAt, nodes_next, nodes_end, nodes_failed}
use Rattle.play_report.proofs.rows.all_rows.Goals as goal

pub loop-node-init : goal.loop-node-init
loop-node-init g c =
    let f = g.F.Files in
    record {
      within = omega arith;
      read = so_far_none (RowsAt f c.args.running.now) (λ a b. LeavesBooks f a.books.items b.books.items) c.args.nodes.now c.new-all.result.items c.new-all.ensures.items;
    }

pub returns-in_err-add_rows-clause-kept : goal.returns-in_err-add_rows-clause-kept
returns-in_err-add_rows-clause-kept g c =
    let f = g.F.Files in
    let xs = c.loop-node.nodes in
    let n = c.loop-node.node in
    let within : n < length xs = omega (arith, c.if-place-nodes.false, c.loop-node.auto.nodes) in
    let a = get_or xs n c.index-nodes-place.result in
    so_far_left (RowsAt f c.args.running.now) (λ a b. LeavesBooks f a.books.items b.books.items) n c.args.nodes.now xs c.loop-node.all.items a c.add_rows.new.books (books_same f) c.loop-node.invariant.read
    (element_or xs n c.index-nodes-place.result within) c.add_rows.ensures.kept

pub returns-in_err-add_rows-clause-cause : goal.returns-in_err-add_rows-clause-cause
returns-in_err-add_rows-clause-cause g c =
    let f = g.F.Files in
    let xs = c.loop-node.nodes in
    let n = c.loop-node.node in
    let node : NodeId = record { 0 = n } in
    let within : n < length xs = omega (arith, c.if-place-nodes.false, c.loop-node.auto.nodes) in
    let a = get_or xs n c.index-nodes-place.result in
    let why = c.in_err-add_rows.field-0.0 in
    let e = err_from_is_err_and c.from_residual.result c.from_residual.ensures.1 in
    if_err c.from_residual.result why (IsNodesFault f c.args.nodes.now (slice_set xs n c.add_rows.new.books)) (e.1 ∙ ap Err e.2)
    (nodes_failed f c.args.running.now node n c.args.nodes.now xs c.loop-node.all.items a c.add_rows.new.books why refl c.loop-node.invariant.read (element_or xs n c.index-nodes-place.result within) c.in_err-add_rows.ensures.cause)

pub loop-node-preserved : goal.loop-node-preserved
loop-node-preserved g c =
    let f = g.F.Files in
    let xs = c.loop-node.nodes in
    let n = c.loop-node.node in
    let within : n < length xs = omega (arith, c.if-place-nodes.false, c.loop-node.auto.nodes) in
    let a = get_or xs n c.index-nodes-place.result in
    record {
      within = omega (arith, c.if-place-nodes.false, c.loop-node.auto.nodes);
      read = nodes_next f c.args.running.now c.runs_in-runs.result n c.args.nodes.now xs c.loop-node.all.items c.add_rows.new.all.items a c.add_rows.new.books c.runs_in-runs.ensures c.loop-node.invariant.read (element_or xs n c.index-nodes-place.result within) c.in_ok-add_rows.ensures.rows c.add_rows.ensures.kept;
    }

pub returns-then-place-nodes-clause-rows : goal.returns-then-place-nodes-clause-rows
returns-then-place-nodes-clause-rows g c =
    let n = c.loop-node.node in
    let old = c.args.nodes.now in
    let end : n ≡ min c.args.count (length old) = omega (arith, c.loop-node-test.true, c.if-place-nodes.true, c.loop-node.auto.nodes, c.loop-node.invariant.within) in
    nodes_end g.F.Files c.args.running.now n c.args.count old c.loop-node.nodes c.loop-node.all.items c.loop-node.invariant.read end

pub returns-then-place-nodes-clause-kept : goal.returns-then-place-nodes-clause-kept
returns-then-place-nodes-clause-kept g c =
    let f = g.F.Files in
    so_far_end (RowsAt f c.args.running.now) (λ a b. LeavesBooks f a.books.items b.books.items) c.loop-node.node c.args.nodes.now c.loop-node.nodes c.loop-node.all.items (books_same f) c.loop-node.invariant.read

pub returns-clause-rows : goal.returns-clause-rows
returns-clause-rows g c =
    let n = c.loop-node.node in
    let old = c.args.nodes.now in
    let end : n ≡ min c.args.count (length old) = omega (arith, c.loop-node-test.false, c.loop-node.auto.node-end, c.loop-node.invariant.within) in
    nodes_end g.F.Files c.args.running.now n c.args.count old c.loop-node.nodes c.loop-node.all.items c.loop-node.invariant.read end

pub returns-clause-kept : goal.returns-clause-kept
returns-clause-kept g c =
    let f = g.F.Files in
    so_far_end (RowsAt f c.args.running.now) (λ a b. LeavesBooks f a.books.items b.books.items) c.loop-node.node c.args.nodes.now c.loop-node.nodes c.loop-node.all.items (books_same f) c.loop-node.invariant.read
