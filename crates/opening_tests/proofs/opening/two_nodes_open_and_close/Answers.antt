-- Nodes that were opened can be closed.
use Rattle.std.proofs.Common.{◌≡◌, true, List, length, take, subst}
use Rattle.hd_base.specs.declared.numbers.BlockId.{BlockId}
use Rattle.node_starts.specs.NodeOpening.Shelves.{is_among}
use Rattle.opening_tests.proofs.opening.two_nodes_open_and_close.Goals as goal

pub close_nodes-requires-clause-lent : goal.close_nodes-requires-clause-lent
close_nodes-requires-clause-lent g c κs =
    let n = c.in_ok-blocks.field-0 in
    let can = c.opened_nodes_close.ensures c.in_ok-two_blocks.field-0.items _ c.open_nodes.new.shelves n c.in_ok-blocks.ensures.opened in
    λ k a x b at here among. can.lend n.nodes.items k a x b at here (subst (λ (bs : List BlockId). is_among (take (length x.books.items) bs) b ≡ true) c.deref-2.ensures.value among)
