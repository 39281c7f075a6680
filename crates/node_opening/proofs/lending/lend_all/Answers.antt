-- One shelf more has lent all blocks, or all are given back.
use Rattle.std.proofs.Common.{◌≡◌, ◌<◌, List, get_or, length, sym, subst, arith}
use Rattle.play_nodes.specs.declared.nodes.NodeBooks.{NodeBooks}
use Rattle.node_opening.proofs.ListLemmas.{element_or}
use Rattle.node_opening.proofs.LendLemmas.{NodesUpTo, nodes_start, nodes_step, nodes_whole, nodes_fail_lend, nodes_fail_back, next_empty}
use Rattle.node_opening.proofs.lending.lend_all.Goals as goal

pub loop-node-init : goal.loop-node-init
loop-node-init g c =
    let s = g.S.Shelf in
    let d = g.S.Drawer.Files in
    let xs = c.args.shelves.now in
    subst (λ (ns : List (NodeBooks g.row.S-Drawer.Denot)). NodesUpTo s d c.args.blocks.now 0 xs xs ns) (sym c.new-nodes.ensures.items) (nodes_start s d c.args.blocks.now xs)

pub lend_node-requires-clause-empty : goal.lend_node-requires-clause-empty
lend_node-requires-clause-empty g c = λ κs inside.
    let xs = c.loop-node.shelves in
    let n = c.loop-node.node in
    let within : n < length xs = omega (arith, c.loop-node-test.true, c.loop-node.auto.shelves) in
    next_empty g.S.Shelf g.S.Drawer.Files c.args.blocks.now n c.args.shelves.now xs c.loop-node.nodes.items (get_or xs n c.index-shelves-node.result) c.requires.empty c.loop-node.invariant (element_or xs n c.index-shelves-node.result within)

pub close_nodes-requires-clause-lent : goal.close_nodes-requires-clause-lent
close_nodes-requires-clause-lent g c = λ κs inside.
    nodes_fail_lend g.S.Shelf g.S.Drawer.Files c.args.blocks.now c.loop-node.node c.args.shelves.now c.loop-node.shelves c.loop-node.nodes.items c.lend_node.new.nodes.items c.lend_node.new.shelf c.loop-node.invariant c.in-Err.ensures.1

pub returns-in-Err-clause-given_back : goal.returns-in-Err-clause-given_back
returns-in-Err-clause-given_back g c =
    let xs = c.loop-node.shelves in
    let n = c.loop-node.node in
    let within : n < length xs = omega (arith, c.loop-node-test.true, c.loop-node.auto.shelves) in
    nodes_fail_back g.S.Shelf g.S.Drawer.Files c.args.blocks.now n c.args.shelves.now xs c.close_nodes.new.shelves c.loop-node.nodes.items c.lend_node.new.nodes.items (get_or xs n c.index-shelves-node.result) c.lend_node.new.shelf
    c.requires.empty c.loop-node.invariant (element_or xs n c.index-shelves-node.result within) c.in-Err.ensures c.close_nodes.ensures

pub loop-node-preserved : goal.loop-node-preserved
loop-node-preserved g c =
    let xs = c.loop-node.shelves in
    let n = c.loop-node.node in
    let within : n < length xs = omega (arith, c.loop-node-test.true, c.loop-node.auto.shelves) in
    nodes_step g.S.Shelf g.S.Drawer.Files c.args.blocks.now n c.args.shelves.now xs c.loop-node.nodes.items c.lend_node.new.nodes.items (get_or xs n c.index-shelves-node.result) c.lend_node.new.shelf
    c.loop-node.invariant (element_or xs n c.index-shelves-node.result within) c.in_default.ensures

pub returns-clause-lent : goal.returns-clause-lent
returns-clause-lent g c =
    let whole : c.loop-node.node ≡ length c.args.shelves.now = omega (arith, c.loop-node-test.false, c.loop-node.auto.node-end) in
    nodes_whole g.S.Shelf g.S.Drawer.Files c.args.blocks.now c.loop-node.node c.args.shelves.now c.loop-node.shelves c.loop-node.nodes.items c.loop-node.invariant whole
