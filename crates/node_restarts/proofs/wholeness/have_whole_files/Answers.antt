-- One book after another.
use Rattle.std.proofs.Common.{Some, sym, ap, ◌∙◌}
use Rattle.node_opening.proofs.ListLemmas.{element_or}
use Rattle.node_restarts.proofs.WholenessLemmas.{none_looked, looked_next, looked_all, faults_among}
use Rattle.node_restarts.proofs.wholeness.have_whole_files.Goals as goal

pub loop-book-init : goal.loop-book-init
loop-book-init g c = none_looked g.F.Files c.args.books.now

pub loop-book-preserved : goal.loop-book-preserved
loop-book-preserved g c =
    let at = element_or c.args.books.now c.loop-book.book-index c.book-item.result c.loop-book-test.true ∙ ap Some (sym c.book-item.is) in
    looked_next g.F.Files c.args.books.now c.loop-book.book-index c.book-item.result c.loop-book.invariant at (c.has_whole_files.ensures.whole c.if-not-has_whole_files.false)

pub returns-then-not-has_whole_files-clause-cause : goal.returns-then-not-has_whole_files-clause-cause
returns-then-not-has_whole_files-clause-cause g c = λ _.
    let at = element_or c.args.books.now c.loop-book.book-index c.book-item.result c.loop-book-test.true ∙ ap Some (sym c.book-item.is) in
    faults_among g.F.Files c.args.books.now c.loop-book.book-index c.book-item.result at (c.has_whole_files.ensures.cause c.if-not-has_whole_files.true)

pub returns-clause-whole : goal.returns-clause-whole
returns-clause-whole g c = λ _. looked_all g.F.Files c.args.books.now c.loop-book.book-index c.loop-book.invariant c.loop-book-test.false
