-- So far, the blocks of the first books that are sought.
use Rattle.std.proofs.Common.{◌≡◌, take}
use Rattle.node_restarts.specs.Seeking.{sought_of}
use Rattle.node_restarts.proofs.seeking.sought_of.Given as goal

abbrev pub invariant-loop-book : goal.invariant-loop-book
invariant-loop-book g l = l.sought.items ≡ sought_of (take l.book-index l.books)
