-- The replica breaks, as the history says.
use Rattle.std.proofs.Common.{true, sym, ap, ◌∙◌}
use Rattle.replica_model.specs.Rows.{broken}
use Rattle.replica_files.specs.Books.{replica_of}
use Rattle.replica_files.proofs.BookLemmas.{noted, book_as, breaks_so}
use Rattle.replica_files.proofs.EndLemmas.{broken_after}
use Rattle.replica_files.proofs.LeftLemmas.{left_before}
use Rattle.replica_files.proofs.book_state.BookState.fail.Goals as goal

pub returns-clause-book : goal.returns-clause-book
returns-clause-book g c =
    let s = c.args.self.now in
    let new = c.note.new.self in
    let n = c.note.ensures.noted in
    let kept = c.note.ensures.kept in
    let r = replica_of s in
    let held = c.requires.book.held in
    let known = c.requires.book.known in
    book_as g.F.Files new s.drawer s.block s.last_sum true (broken r) kept.drawer n.block kept.last_sum kept.whole
    (noted _ new c.args.event true c.note.result n)
    (kept.replica ∙ c.break_from.ensures ∙ breaks_so s.replica r.known c.info-held.result (ap (λ k. k.block) known) (c.info-held.ensures.value ∙ ap (λ k. k.info) known))
    (broken_after g.F.Files s.drawer s.drawer s.block s.last_sum r held held.only)
    (λ _. left_before g.F.Files s.drawer r held.full (sym (ap (λ k. k.is_broken) known) ∙ c.requires.unbroken) held.holds)
