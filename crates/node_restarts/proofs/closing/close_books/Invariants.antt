-- What is left closes the node.
use Rattle.std.proofs.Common.{length}
use Rattle.node_opening.specs.Closing.{NodeCloses}
use Rattle.node_opening.proofs.CloseLemmas.{IsLeft}
use Rattle.node_restarts.specs.Closing.{HaveNumbers}
use Rattle.node_restarts.proofs.closing.close_books.Given as goal

abbrev pub invariant-loop-book : goal.invariant-loop-book
invariant-loop-book g l = record {
  left : IsLeft g.S.Shelf l.blocks l.shelf l.books.items;
  closes : (end : _) → NodeCloses g.S.Shelf g.S.Drawer.Files l.blocks l.books.items l.shelf end → NodeCloses g.S.Shelf g.S.Drawer.Files l.blocks l.initial.books.items l.initial.shelf end;
  numbers : HaveNumbers l.books.items → HaveNumbers l.initial.books.items;
}

abbrev pub decreases-loop-book : goal.decreases-loop-book
decreases-loop-book g l = length l.books.items
