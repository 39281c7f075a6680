-- The replica after the event, or broken, is that of the history with the entry.
use Rattle.std.proofs.Common.{true, false, refl, sym, ◌∙◌}
use Rattle.replica_model.specs.Rows.{row, broken}
use Rattle.replica_files.specs.Books.{replica_of}
use Rattle.replica_files.proofs.BookLemmas.{noted, book_as, breaks_so, broken_block}
use Rattle.replica_files.proofs.book_state.BookState.finish.Goals as goal

pub returns-in-Ok-clause-book : goal.returns-in-Ok-clause-book
returns-in-Ok-clause-book g c =
    let s = c.args.self.now in
    let new = c.note-receipt.new.self in
    let n = c.note-receipt.ensures.noted in
    let kept = c.note-receipt.ensures.kept in
    book_as g.F.Files new s.drawer s.block c.in-Ok.last_sum s.whole (row (replica_of s) c.args.event) kept.drawer n.block kept.last_sum kept.whole
    (noted _ new c.args.event false c.note-receipt.result n) (kept.replica ∙ c.requires.to_note.known)
    (rw c.in-Ok.is at c.requires.to_note.done) (rw c.in-Ok.is at c.requires.to_note.still)

pub returns-in-Err-clause-book : goal.returns-in-Err-clause-book
returns-in-Err-clause-book g c =
    let s = c.args.self.now in
    let new = c.note.new.self in
    let n = c.note.ensures.noted in
    let kept = c.note.ensures.kept in
    let r = replica_of s in
    let held = c.requires.to_note.failed (rw c.in-Err.is refl) in
    book_as g.F.Files new s.drawer s.block s.last_sum false (broken r) kept.drawer n.block kept.last_sum kept.whole
    (noted _ new c.args.event true c.note.result n)
    (kept.replica ∙ c.break_from.ensures ∙ breaks_so s.replica r.known c.args.prior.now.info (c.requires.to_note.of_block ∙ sym held.of_block ∙ broken_block r) c.requires.to_note.before_is)
    held (λ _. c.requires.to_note.left (rw c.in-Err.is refl))
