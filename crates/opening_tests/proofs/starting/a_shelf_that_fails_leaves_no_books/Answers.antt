-- The node has what it was opened with.
use Rattle.std.proofs.Common.{arith}
use Rattle.opening_tests.proofs.OpenedLemmas.{all_lent, all_books}
use Rattle.opening_tests.proofs.starting.a_shelf_that_fails_leaves_no_books.Goals as goal

pub start_node-requires-clause-lent : goal.start_node-requires-clause-lent
start_node-requires-clause-lent g c κs =
    all_lent _ _ c.in_ok-two_blocks.field-0.items _ c.open_nodes.new.shelves c.in_ok-nodes.nodes c.in_ok-nodes.ensures.opened c.in_ok-two_blocks.ensures 0 c.index-shelves-0.result (omega arith)

pub start_node-requires-clause-whole : goal.start_node-requires-clause-whole
start_node-requires-clause-whole g c κs =
    all_books _ _ c.in_ok-two_blocks.field-0.items _ c.open_nodes.new.shelves c.in_ok-nodes.nodes c.in_ok-nodes.ensures.opened (record { 0 = 0 }) (omega arith)
