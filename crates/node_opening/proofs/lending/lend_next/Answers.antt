-- The book stands behind the others, or nothing is left of it.
use Rattle.std.proofs.Common.{List, [], ◌∷◌, ◌++◌, refl, ap, ◌∙◌}
use Rattle.play_nodes.specs.ReplicaFiles.BookState.{BookState}
use Rattle.node_opening.proofs.LendLemmas.{unlent_none, next_failed}
use Rattle.node_opening.proofs.lending.lend_next.Goals as goal

pub returns-in_err-reserve : goal.returns-in_err-reserve
returns-in_err-reserve g c =
    let s = g.S.Shelf in
    let d = g.S.Drawer.Files in
    let a = c.args.shelf.now in
    next_failed s d c.args.block a a c.args.books.now.items c.reserve.new.self.items c.from_residual.result c.from_residual.ensures.0 (unlent_none s d c.args.block a a refl refl refl, c.in_err-reserve.ensures.items)

pub returns-in_err-book : goal.returns-in_err-book
returns-in_err-book g c =
    next_failed g.S.Shelf g.S.Drawer.Files c.args.block c.args.shelf.now c.lend_book.new.shelf c.args.books.now.items c.reserve.new.self.items c.from_residual-in_err-book.result c.from_residual-in_err-book.ensures.0
    (c.in_err-book.ensures, c.in_ok-reserve.ensures.items)

pub returns : goal.returns
returns g c = record {
  book = c.in_ok-book.book;
  is_lent = c.in_ok-book.ensures;
  behind = c.push_reserved.ensures.items ∙ ap (λ (xs : List (BookState g.row.S-Drawer.Denot)). xs ++ c.in_ok-book.book ∷ []) c.in_ok-reserve.ensures.items;
}
