-- All books are closed.
use Rattle.node_restarts.proofs.RestartingLemmas.{front_lent, scan_gives_up}
use Rattle.node_restarts.proofs.restarting.give_up_books.Goals as goal

pub close_books-requires-clause-lent : goal.close_books-requires-clause-lent
close_books-requires-clause-lent g c κs within = front_lent g.S.Shelf c.args.shelf.now c.args.blocks.now _ c.requires.count c.requires.lent

pub returns-clause-given_up : goal.returns-clause-given_up
returns-clause-given_up g c =
    scan_gives_up g.S.Shelf g.S.Drawer.Files c.args.blocks.now c.args.books.items c.args.shelf.now c.close_books.new.shelf c.requires.count c.requires.lent c.close_books.ensures.closes c.close_books.new.shelf (λ y lent. lent)
