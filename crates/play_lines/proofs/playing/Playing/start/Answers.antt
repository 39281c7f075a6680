-- A node starts again.
use Rattle.std.proofs.Common.{get_or, slice_set, refl, sym, ◌∙◌}
use Rattle.play_scripts.proofs.NodeOpening.ListLemmas.{element_or}
use Rattle.play_lines.proofs.ShelfStarts.{lends_node, has_books, node_tells, started_on}
use Rattle.play_lines.proofs.StartLines.{runs_already, was_started, fault_here}
use Rattle.play_lines.proofs.playing.Playing.start.Goals as goal

pub start-requires-clause-lent : goal.start-requires-clause-lent
start-requires-clause-lent g c κs within =
    let xs = c.args.shelves.now in
    let shelf = get_or xs c.args.node.0 c.index-shelves-place.result in
    lends_node g.S.Shelf xs c.args.self.now c.requires.serve c.args.node shelf (element_or xs c.args.node.0 c.index-shelves-place.result c.if-place-shelves.false)

pub start-requires-clause-whole : goal.start-requires-clause-whole
start-requires-clause-whole g c κs within =
    let xs = c.args.shelves.now in
    let x = c.args.self.now in
    let shelf = get_or xs c.args.node.0 c.index-shelves-place.result in
    let playing = c.requires.playing in
    let filled = c.replicas_have_their_bytes.ensures playing.p.nodes x.player.events.items in
    let fit = c.shown_nodes_fit.ensures _ playing.is.stands.net x.player.nodes filled playing.is.stands.shows.nodes.nodes_are in
    has_books g.S.Shelf xs x c.requires.serve c.args.node shelf (element_or xs c.args.node.0 c.index-shelves-place.result c.if-place-shelves.false) fit c.fitting_books_are_of_blocks.ensures

pub returns-clause-shows : goal.returns-clause-shows
returns-clause-shows g c =
    let xs = c.args.shelves.now in
    let x = c.args.self.now in
    let node = c.args.node in
    let shelf = get_or xs node.0 c.index-shelves-place.result in
    let shelf' = c.start.new.shelf in
    let here = element_or xs node.0 c.index-shelves-place.result c.if-place-shelves.false in
    let new = record x { player = c.start.new.self } in
    let tells = node_tells g.S.Shelf g.F.Files node shelf x.player.nodes (c.told_shelves_tell.ensures c.requires.told) (c.requires.serve.lent.empty node.0 shelf here) in
    was_started g.S.Shelf g.F.Files g.R.Roads g.I.LinkIn g.O.LinkOut c.worlds_are_lawful.ensures c.dials_are_of_lives_so_far.ensures node x c.args.roads.now (sym c.runs.ensures ∙ c.if-runs.false) new c.start.new.roads refl xs (slice_set xs node.0 shelf') shelf c.if-place-shelves.false
    c.start.result c.start.ensures.shows tells (fault_here g.S.Shelf g.F.Files g.R.Roads node shelf shelf' xs here new c.args.roads.now c.start.new.roads c.start.result c.start.ensures.cause)

pub returns-clause-shelves : goal.returns-clause-shelves
returns-clause-shelves g c =
    let xs = c.args.shelves.now in
    let x = c.args.self.now in
    let node = c.args.node in
    let shelf = get_or xs node.0 c.index-shelves-place.result in
    let here = element_or xs node.0 c.index-shelves-place.result c.if-place-shelves.false in
    started_on g.S.Shelf g.F.Files node xs shelf c.start.new.shelf x (record x { player = c.start.new.self }) c.requires.serve here c.start.ensures.others c.start.ensures.no_more c.start.ensures.never_falls
    c.start.result (c.told_shelves_tell.ensures c.requires.told) c.start.ensures.lent c.start.ensures.given_up

pub returns-then-runs-clause-shows : goal.returns-then-runs-clause-shows
returns-then-runs-clause-shows g c =
    runs_already g.S.Shelf g.F.Files g.R.Roads g.I.LinkIn g.O.LinkOut c.worlds_are_lawful.ensures c.dials_are_of_lives_so_far.ensures c.args.node c.args.self.now c.args.roads.now c.args.shelves.now (sym c.runs.ensures ∙ c.if-runs.true)
