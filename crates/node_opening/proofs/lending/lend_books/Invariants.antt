-- The blocks so far are lent, and their books made.
use Rattle.std.specs.Prelude.{take}
use Rattle.node_opening.specs.Lending.{HasBooks}
use Rattle.node_opening.proofs.lending.lend_books.Given as goal

abbrev pub invariant-loop-block : goal.invariant-loop-block
invariant-loop-block g l = HasBooks g.S.Shelf g.S.Drawer.Files (take l.block-index l.blocks) l.fn.shelf l.shelf l.books.items
