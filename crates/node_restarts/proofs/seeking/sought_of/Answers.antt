-- One book after another.
use Rattle.std.proofs.Common.{Some, sym, ap, ◌∙◌}
use Rattle.node_opening.proofs.ListLemmas.{element_or}
use Rattle.node_restarts.proofs.SeekingLemmas.{sought_next, sought_end}
use Rattle.node_restarts.proofs.seeking.sought_of.Goals as goal

pub loop-book-preserved : goal.loop-book-preserved
loop-book-preserved g c =
    let at = element_or c.args.books.now c.loop-book.book-index c.book-item.result c.loop-book-test.true in
    sought_next c.loop-book.sought.items c.push_sought.new.sought.items c.args.books.now c.loop-book.book-index c.book-item.result c.loop-book.invariant (at ∙ ap Some (sym c.book-item.is)) c.in_ok-push_sought.ensures

pub returns : goal.returns
returns g c = sought_end c.loop-book.sought.items c.args.books.now c.loop-book.book-index c.loop-book.invariant c.loop-book-test.false
