-- The books at the places are given back.
use Rattle.std.proofs.Common.{List, length, subst}
use Rattle.play_nodes.specs.ReplicaFiles.BookState.{BookState}
use Rattle.node_opening.specs.Closing.{NodeCloses}
use Rattle.node_opening.proofs.CloseLemmas.{lent_front, taken_fewer, taken_within}
use Rattle.node_opening.proofs.closing.close_node.Goals as goal

pub give_back_books-requires-clause-within : goal.give_back_books-requires-clause-within
give_back_books-requires-clause-within g c κs within = taken_within c.args.books.items c.truncate.new.self.items (length c.args.blocks.now) c.truncate.ensures.items

pub give_back_books-requires-clause-lent : goal.give_back_books-requires-clause-lent
give_back_books-requires-clause-lent g c κs within =
    lent_front g.S.Shelf c.args.blocks.now (length c.truncate.new.self.items) (length c.args.books.items) c.args.shelf.now (taken_fewer c.args.books.items c.truncate.new.self.items (length c.args.blocks.now) c.truncate.ensures.items) c.requires

pub returns : goal.returns
returns g c = subst (λ (xs : List (BookState g.row.S-Drawer.Denot)). NodeCloses g.S.Shelf g.S.Drawer.Files c.args.blocks.now xs c.args.shelf.now c.give_back_books.new.shelf) c.truncate.ensures.items c.give_back_books.ensures
