-- So far, the first books' files hold their replicas.
use Rattle.std.proofs.Common.{take}
use Rattle.node_restarts.specs.Wholeness.{AllHoldWhole}
use Rattle.node_restarts.proofs.wholeness.have_whole_files.Given as goal

abbrev pub invariant-loop-book : goal.invariant-loop-book
invariant-loop-book g l = AllHoldWhole g.F.Files (take l.book-index l.books)
