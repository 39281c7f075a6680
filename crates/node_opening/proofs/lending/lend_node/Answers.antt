-- The node stands behind the others, or its shelf has all back.
use Rattle.std.proofs.Common.{List, [], ◌∷◌, ◌++◌, ap, ◌∙◌}
use Rattle.play_nodes.specs.declared.nodes.NodeBooks.{NodeBooks}
use Rattle.node_opening.proofs.ShelfLemmas.{given_none}
use Rattle.node_opening.proofs.LendLemmas.{node_failed}
use Rattle.node_opening.proofs.lending.lend_node.Goals as goal

pub returns-in_err-reserve : goal.returns-in_err-reserve
returns-in_err-reserve g c =
    let a = c.args.shelf.now in
    node_failed g.S.Shelf g.S.Drawer.Files c.args.blocks.now a a c.args.nodes.now.items c.reserve.new.self.items c.from_residual.result c.from_residual.ensures.0 (given_none g.S.Shelf a, c.in_err-reserve.ensures.items)

pub returns-in_err-node : goal.returns-in_err-node
returns-in_err-node g c =
    node_failed g.S.Shelf g.S.Drawer.Files c.args.blocks.now c.args.shelf.now c.lend_books.new.shelf c.args.nodes.now.items c.reserve.new.self.items c.from_residual-in_err-node.result c.from_residual-in_err-node.ensures.0
    (c.in_err-node.ensures, c.in_ok-reserve.ensures.items)

pub returns : goal.returns
returns g c = record {
  node = c.in_ok-node.node;
  has_books = c.in_ok-node.ensures;
  behind = c.push_reserved.ensures.items ∙ ap (λ (xs : List (NodeBooks g.row.S-Drawer.Denot)). xs ++ c.in_ok-node.node ∷ []) c.in_ok-reserve.ensures.items;
}
