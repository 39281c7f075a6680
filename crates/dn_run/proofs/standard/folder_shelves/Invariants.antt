-- So far there is a shelf for each node below this one.
use Rattle.std.proofs.Common.{◌≡◌, length}
use Rattle.dn_run.proofs.standard.folder_shelves.Given as goal

abbrev pub invariant-loop-node : goal.invariant-loop-node
invariant-loop-node g l = length l.shelves.items ≡ l.node
