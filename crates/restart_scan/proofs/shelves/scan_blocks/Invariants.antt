-- The first blocks were scanned; no block is lent that wasn't, and the count hasn't fallen.
use Rattle.std.proofs.Common.{◌≤◌}
use Rattle.restart_scan.specs.Shelves.{WhereTold, StaysUntold, LendsNoMore}
use Rattle.restart_scan.proofs.GoingLemmas.{IsGoing}
use Rattle.restart_scan.proofs.shelves.scan_blocks.Given as goal

abbrev pub invariant-loop-block : goal.invariant-loop-block
invariant-loop-block g l = record {
  so_far : WhereTold (g.S.Shelf.files l.initial.shelf) (g.S.Shelf.files l.shelf) (λ m n. IsGoing l.blocks l.block-index m n l.listed.replicas.items l.listed.moved.items);
  untold : StaysUntold (g.S.Shelf.files l.initial.shelf) (g.S.Shelf.files l.shelf);
  lent : LendsNoMore (g.S.Shelf.lent l.initial.shelf) (g.S.Shelf.lent l.shelf);
  never_falls : g.S.Shelf.faults l.initial.shelf ≤ g.S.Shelf.faults l.shelf;
}
