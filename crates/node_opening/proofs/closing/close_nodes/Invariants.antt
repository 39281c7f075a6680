-- What is left closes the nodes.
use Rattle.std.proofs.Common.{length}
use Rattle.node_opening.specs.Closing.{NodesClose}
use Rattle.node_opening.proofs.CloseLemmas.{NodesAreLentOut}
use Rattle.node_opening.proofs.closing.close_nodes.Given as goal

abbrev pub invariant-loop-node : goal.invariant-loop-node
invariant-loop-node g l = record {
  lent : NodesAreLentOut g.S.Shelf l.blocks l.shelves l.nodes.items;
  closes : (end : _) → NodesClose g.S.Shelf g.S.Drawer.Files l.blocks l.nodes.items l.shelves end → NodesClose g.S.Shelf g.S.Drawer.Files l.blocks l.initial.nodes.items l.initial.shelves end;
}

abbrev pub decreases-loop-node : goal.decreases-loop-node
decreases-loop-node g l = length l.nodes.items
