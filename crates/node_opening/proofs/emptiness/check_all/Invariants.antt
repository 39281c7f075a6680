-- The shelves so far have no files.
use Rattle.std.specs.Prelude.{[]}
use Rattle.node_opening.specs.Shelves.{HasLent, IsEmpty}
use Rattle.node_opening.proofs.ListLemmas.{UpTo}
use Rattle.node_opening.proofs.emptiness.check_all.Given as goal

abbrev pub invariant-loop-node : goal.invariant-loop-node
invariant-loop-node g l = UpTo (λ _ a b. HasLent g.S.Shelf [] a b × IsEmpty g.S.Shelf a) l.node l.fn.shelves l.shelves
