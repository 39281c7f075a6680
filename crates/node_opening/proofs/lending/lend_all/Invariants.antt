-- The shelves so far have lent their blocks.
use Rattle.node_opening.proofs.LendLemmas.{NodesUpTo}
use Rattle.node_opening.proofs.lending.lend_all.Given as goal

abbrev pub invariant-loop-node : goal.invariant-loop-node
invariant-loop-node g l = NodesUpTo g.S.Shelf g.S.Drawer.Files l.blocks l.node l.fn.shelves l.shelves l.nodes.items
