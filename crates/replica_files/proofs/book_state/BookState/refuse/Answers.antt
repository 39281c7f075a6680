-- A refused event leaves the replica, and so the book.
use Rattle.std.proofs.Common.{false, ◌∙◌}
use Rattle.replica_files.specs.Books.{replica_of}
use Rattle.replica_files.proofs.BookLemmas.{noted, refused_row, book_as}
use Rattle.replica_files.proofs.book_state.BookState.refuse.Goals as goal

pub returns-clause-book : goal.returns-clause-book
returns-clause-book g c =
    let old = c.args.self.now in
    let new = c.note.new.self in
    let n = c.note.ensures.noted in
    let kept = c.note.ensures.kept in
    book_as g.F.Files new old.drawer old.block old.last_sum old.whole (replica_of old) kept.drawer n.block kept.last_sum kept.whole
    (noted old new c.args.event false c.note.result n ∙ refused_row (replica_of old) c.args.event c.args.refusal c.requires.refused c.requires.book.held.full)
    (kept.replica ∙ c.requires.book.known) c.requires.book.held c.requires.book.left
