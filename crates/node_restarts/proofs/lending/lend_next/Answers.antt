-- The book stands behind the others, or nothing is left of it.
use Rattle.std.proofs.Common.{List, [], ◌∷◌, ◌++◌, Err, refl, sym, ap, subst, ◌∙◌}
use Rattle.std.proofs.lemmas.Result.{err_from_is_err_and}
use Rattle.replica_files.specs.declared.book_state.BookState.{BookState}
use Rattle.node_opening.proofs.LendLemmas.{unlent_none}
use Rattle.node_restarts.specs.Faults.{HasRestartCause}
use Rattle.node_restarts.proofs.LendingLemmas.{next_failed}
use Rattle.node_restarts.proofs.lending.lend_next.Goals as goal

pub returns-in_err-reserve : goal.returns-in_err-reserve
returns-in_err-reserve g c =
    let s = g.S.Shelf in
    let d = g.S.Drawer.Files in
    let a = c.args.shelf.now in
    let e = err_from_is_err_and c.from_residual.result c.from_residual.ensures.1 in
    next_failed s d c.args.block c.args.seen a a c.args.books.now.items c.reserve.new.self.items c.from_residual.result e.0 e.1
    (record { unlent = unlent_none s d c.args.block a a refl refl refl; cause = subst (HasRestartCause (s.faults a) (s.faults a)) (sym e.2) tt }, c.in_err-reserve.ensures.items)

pub returns-in_err-book : goal.returns-in_err-book
returns-in_err-book g c =
    let s = g.S.Shelf in
    let d = g.S.Drawer.Files in
    let why = c.in_err-book.field-0.0 in
    let e = err_from_is_err_and c.from_residual-in_err-book.result c.from_residual-in_err-book.ensures.1 in
    next_failed s d c.args.block c.args.seen c.args.shelf.now c.lend_found.new.shelf c.args.books.now.items c.reserve.new.self.items c.from_residual-in_err-book.result why (e.1 ∙ ap Err e.2)
    (c.in_err-book.ensures, c.in_ok-reserve.ensures.items)

pub returns : goal.returns
returns g c = record {
  book = c.in_ok-book.book;
  is_lent = c.in_ok-book.ensures;
  behind = c.push_reserved.ensures.items ∙ ap (λ (xs : List (BookState g.row.S-Drawer.Denot)). xs ++ c.in_ok-book.book ∷ []) c.in_ok-reserve.ensures.items;
}
