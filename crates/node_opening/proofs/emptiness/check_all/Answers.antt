-- One shelf more has no files.
use Rattle.std.proofs.Common.{Err, Result, ◌<◌, get_or, length, slice_set, refl, sym, ap, subst, ◌∙◌, arith}
use Rattle.std.proofs.lemmas.Result.{err_from_is_err_and}
use Rattle.hd_base.specs.declared.numbers.NodeId.{NodeId}
use Rattle.node_opening.specs.Emptiness.{ChecksAll}
use Rattle.node_opening.specs.declared.faults.OpenFault.{OpenFault}
use Rattle.node_opening.proofs.ListLemmas.{up_to_none, element_or}
use Rattle.node_opening.proofs.EmptyLemmas.{Checked, check_more, check_end, check_stop}
use Rattle.node_opening.proofs.emptiness.check_all.Goals as goal

pub loop-node-init : goal.loop-node-init
loop-node-init g c = up_to_none (Checked g.S.Shelf) c.args.shelves.now

pub returns-in_err-check_shelf : goal.returns-in_err-check_shelf
returns-in_err-check_shelf g c =
    let s = g.S.Shelf in
    let n = c.loop-node.node in
    let xs = c.loop-node.shelves in
    let node : NodeId = record { 0 = n } in
    let within : n < length xs = omega (arith, c.loop-node-test.true, c.loop-node.auto.shelves) in
    let a = get_or xs n c.index-shelves-node.result in
    let b = c.check_shelf.new.shelf in
    let why = c.in_err-check_shelf.field-0.0 in
    let e = err_from_is_err_and c.from_residual.result c.from_residual.ensures.1 in
    subst (λ (r : Result (Unit {0}) OpenFault). ChecksAll s c.args.shelves.now (slice_set xs n b) r) (sym (e.1 ∙ ap Err e.2))
    (check_stop s c.args.shelves.now xs n node a b why c.loop-node.invariant refl (element_or xs n c.index-shelves-node.result within) c.in_err-check_shelf.ensures)

pub loop-node-preserved : goal.loop-node-preserved
loop-node-preserved g c =
    let n = c.loop-node.node in
    let xs = c.loop-node.shelves in
    let within : n < length xs = omega (arith, c.loop-node-test.true, c.loop-node.auto.shelves) in
    check_more g.S.Shelf c.args.shelves.now xs n (get_or xs n c.index-shelves-node.result) c.check_shelf.new.shelf c.loop-node.invariant (element_or xs n c.index-shelves-node.result within) c.in_ok-check_shelf.ensures

pub returns : goal.returns
returns g c = check_end g.S.Shelf c.args.shelves.now c.loop-node.shelves c.loop-node.node c.loop-node.invariant c.loop-node-test.false
