-- The node has its new books, and then it listens.
use Rattle.std.proofs.Common.{inr}
use Rattle.node_starts.specs.Books.{StartsOver, StopsOver}
use Rattle.node_starts.proofs.ReturnLemmas.{starts_over, start_shows, on_ok, on_err}
use Rattle.node_starts.proofs.starting.start_node.Goals as goal

pub returns-clause-shows : goal.returns-clause-shows
returns-clause-shows g c =
    start_shows g.S.Shelf g.S.Drawer.Files c.args.node c.args.shelf.now c.restart_node.new.shelf c.args.nodes.now c.restart_node.new.nodes c.requires.whole c.in_ok-restart_node.ensures.again g.R.Roads g.I.LinkIn g.O.LinkOut
    c.args.roads.now c.listen_at.new.roads c.listen_at.result c.listen_at.ensures.shows

pub returns-clause-lent : goal.returns-clause-lent
returns-clause-lent g c =
    let s = g.S.Shelf in
    let d = g.S.Drawer.Files in
    let old = c.args.nodes.now in
    let new = c.restart_node.new.nodes in
    on_ok c.listen_at.result (StartsOver s d c.args.node c.args.shelf.now c.restart_node.new.shelf old new)
    (starts_over s d c.args.node c.args.shelf.now c.restart_node.new.shelf old new c.requires.whole c.in_ok-restart_node.ensures.again)

pub returns-clause-given_up : goal.returns-clause-given_up
returns-clause-given_up g c =
    let s = g.S.Shelf in
    let d = g.S.Drawer.Files in
    let old = c.args.nodes.now in
    let new = c.restart_node.new.nodes in
    on_err c.listen_at.result (StopsOver s d c.args.node c.args.shelf.now c.restart_node.new.shelf old new)
    (inr (starts_over s d c.args.node c.args.shelf.now c.restart_node.new.shelf old new c.requires.whole c.in_ok-restart_node.ensures.again))
