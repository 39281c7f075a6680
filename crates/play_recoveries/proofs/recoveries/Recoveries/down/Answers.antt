-- The lower end of a connection acted with the books of its node.
use Rattle.std.specs.Vec.{with_item, with_items}
use Rattle.std.proofs.lemmas.List.{with_items_is}
use Rattle.std.proofs.Common.{◌≡◌, length, refl, sym, ap, ◌∙◌, subst}
use Rattle.play_nodes.proofs.PlaceLaws.{none_so, element_some}
use Rattle.play_recoveries.specs.Seats.{IsSeat}
use Rattle.play_recoveries.proofs.SeatLaws.{down_unseated, down_shows, server_known, changed_sizes}
use Rattle.play_recoveries.proofs.recoveries.Recoveries.down.Goals as goal

pub returns-in_default-clause-shows : goal.returns-in_default-clause-shows
returns-in_default-clause-shows g c =
    down_unseated g.F.Files g.R.Roads g.I.LinkIn g.O.LinkOut c.args.conn c.args.nodes.now c.args.self.now c.args.roads.now
    (subst (λ x. IsSeat c.args.nodes.now c.args.self.now c.args.conn.0 x) (none_so c.seat_of.result c.in_default.not-Some) c.seat_of.ensures)

pub down-served-requires-after_bounds : goal.down-served-requires-after_bounds
down-served-requires-after_bounds g c κs within =
    server_known g.F.Files g.R.Roads g.I.LinkIn g.O.LinkOut c.args.roads.now c.args.nodes.now c.args.self.now c.in-Some.seat.place c.index_mut-2.result.now c.requires
    (element_some c.args.self.now.servers.items c.in-Some.seat.place c.index_mut-2.result.now c.in-Some.ensures.within c.index_mut-2.ensures.value)

pub returns-clause-shows : goal.returns-clause-shows
returns-clause-shows g c =
    let seat = c.in-Some.seat in
    let n = c.args.nodes.now in
    let p = c.args.self.now in
    let x = c.index_mut.result.now in
    let s = c.index_mut-2.result.now in
    let x' = record x { books = with_items x.books c.down-served.new.books } in
    down_shows g.F.Files g.R.Roads g.I.LinkIn g.O.LinkOut c.args.conn n (record n { nodes = with_item n.nodes seat.node.0 x' }) p (record p { servers = with_item p.servers seat.place c.down-served.new.self }) seat x x' s c.down-served.new.self
    c.args.roads.now c.down-served.new.roads c.in-Some.ensures
    (record { found = element_some n.nodes.items seat.node.0 x c.in-Some.ensures.has_books c.index_mut.ensures.value; blocks = refl; connections = refl; nodes = refl })
    (record { at = element_some p.servers.items seat.place s c.in-Some.ensures.within c.index_mut-2.ensures.value; set = refl; conn = c.down-served.ensures.shows.conn; clients = refl })
    c.nodes_follow.ensures c.upper_ends_stay.ensures c.primary_clients_stay.ensures c.down-served.result c.followed.result c.followed.ensures
    (rw (with_items_is x.books c.down-served.new.books (c.down-served.auto.books ∙ (ap (λ xs. length xs) c.deref_mut.ensures.value ∙ sym x.books.ok.0))) (rw (c.deref.ensures.value, c.deref_mut.ensures.value) at c.down-served.ensures.shows))

pub returns-clause-sizes : goal.returns-clause-sizes
returns-clause-sizes g c =
    let seat = c.in-Some.seat in
    let n = c.args.nodes.now in
    let x = c.index_mut.result.now in
    let x' = record x { books = with_items x.books c.down-served.new.books } in
    let same : length c.down-served.new.books ≡ length x.books.items = c.down-served.auto.books ∙ ap (λ xs. length xs) c.deref_mut.ensures.value in
    changed_sizes n (record n { nodes = with_item n.nodes seat.node.0 x' }) seat.node.0 x x'
    (record { found = element_some n.nodes.items seat.node.0 x c.in-Some.ensures.has_books c.index_mut.ensures.value; blocks = refl; connections = refl; nodes = refl })
    (ap (λ xs. length xs) (with_items_is x.books c.down-served.new.books (same ∙ sym x.books.ok.0)) ∙ same)
