-- The blocks so far are lent, and the books of what was found of them made.
use Rattle.std.specs.Prelude.{take}
use Rattle.node_restarts.specs.Lending.{HasFound}
use Rattle.node_restarts.proofs.lending.lend_all.Given as goal

abbrev pub invariant-loop-block : goal.invariant-loop-block
invariant-loop-block g l = HasFound g.S.Shelf g.S.Drawer.Files (take l.block-index l.blocks) l.replicas l.fn.shelf l.shelf l.books.items
