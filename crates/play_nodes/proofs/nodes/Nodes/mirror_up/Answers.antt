-- The member took what stood next from its mirror, and what is left of it is back in its place.
use Rattle.std.specs.Vec.{with_item}
use Rattle.std.proofs.Common.{refl, subst, ◌<◌, ℕ, sym, ◌∙◌}
use Rattle.play_nodes.specs.Places.{IsSeat, Takes}
use Rattle.play_nodes.proofs.PlaceLaws.{none_so, element_some, element_within, book_found, book_set}
use Rattle.play_nodes.proofs.SizeLaws.{take_sizes, event_sizes}
use Rattle.play_nodes.proofs.LiftLaws.{seat_within, taken_within, books_of, place_within, lifted_known}
use Rattle.play_nodes.proofs.ReadyNodes.{taken_none}
use Rattle.play_nodes.proofs.TakeNodes.{above_needed, above_seated, up_shows}
use Rattle.play_nodes.proofs.nodes.Nodes.mirror_up.Goals as goal

pub returns-in_default-clause-shows : goal.returns-in_default-clause-shows
returns-in_default-clause-shows g c = λ w net queues d stands lawful due upper.
    absurd (above_needed g.R.Roads g.I.LinkIn g.O.LinkOut w net c.args.roads.now c.args.conn d c.args.self.now stands queues upper due (sym c.above.ensures ∙ none_so c.above.result c.in_default.not-Some))

pub returns-in_default-seat_of-clause-shows : goal.returns-in_default-seat_of-clause-shows
returns-in_default-seat_of-clause-shows g c = λ w net queues d stands lawful due upper.
    absurd (above_seated g.R.Roads g.I.LinkIn g.O.LinkOut w net c.args.roads.now c.args.conn d c.in-Some.above c.args.self.now stands lawful.ordered lawful.placed queues upper due (sym c.above.ensures ∙ c.in-Some.is)
    (subst (λ x. IsSeat c.args.self.now c.in-Some.above.0 x) (none_so c.seat_of.result c.in_default-seat_of.not-Some) c.seat_of.ensures))

pub returns-in_default-take-clause-shows : goal.returns-in_default-take-clause-shows
returns-in_default-take-clause-shows g c = λ w net queues d stands lawful due upper.
    absurd (taken_none c.args.self.now c.take.new.self c.in-Some.above.0 c.in-Some-seat_of.seat c.in-Some-seat_of.ensures
    (subst (λ x. Takes c.args.self.now c.take.new.self c.in-Some-seat_of.seat.conn x) (none_so c.take.result c.in_default-take.not-Some) c.take.ensures))

pub take-requires : goal.take-requires
take-requires g c = seat_within c.args.self.now c.in-Some.above.0 c.in-Some-seat_of.seat c.in-Some-seat_of.ensures

pub index_mut-requires : goal.index_mut-requires
index_mut-requires g c =
    let b = books_of c.args.self.now c.take.new.self c.in-Some.above.0 c.in-Some-seat_of.seat c.take.result c.in-Some-seat_of.ensures c.take.ensures in
    subst (λ (k : ℕ). c.in-Some-seat_of.seat.node.0 < k) (sym c.take.new.self.nodes.ok.0) (element_within c.take.new.self.nodes.items c.in-Some-seat_of.seat.node.0 b.at b.found)

pub index_mut-book-requires : goal.index_mut-book-requires
index_mut-book-requires g c =
    let b = books_of c.args.self.now c.take.new.self c.in-Some.above.0 c.in-Some-seat_of.seat c.take.result c.in-Some-seat_of.ensures c.take.ensures in
    let x = c.index_mut.result.now in
    let found = element_some c.take.new.self.nodes.items c.in-Some-seat_of.seat.node.0 x (element_within c.take.new.self.nodes.items c.in-Some-seat_of.seat.node.0 b.at b.found) c.index_mut.ensures.value in
    subst (λ (k : ℕ). c.in-Some-seat_of.seat.place < k) (sym x.books.ok.0) (place_within c.args.self.now c.take.new.self c.in-Some.above.0 c.in-Some-seat_of.seat c.take.result x c.in-Some-seat_of.ensures c.take.ensures found)

pub mirror_up-left-requires-after_bounds : goal.mirror_up-left-requires-after_bounds
mirror_up-left-requires-after_bounds g c κs within =
    lifted_known g.R.Roads g.I.LinkIn g.O.LinkOut c.args.roads.now c.args.self.now c.take.new.self c.in-Some.above.0 c.in-Some-seat_of.seat c.in-Some-take.member c.requires c.in-Some-seat_of.ensures c.in-Some-take.ensures

pub follow-requires : goal.follow-requires
follow-requires g c = taken_within c.args.self.now c.take.new.self c.in-Some.above.0 c.in-Some-seat_of.seat c.take.result c.in-Some-seat_of.ensures c.take.ensures

pub returns-clause-shows : goal.returns-clause-shows
returns-clause-shows g c =
    let s = c.in-Some-seat_of.seat in
    let b = books_of c.args.self.now c.take.new.self c.in-Some.above.0 s c.take.result c.in-Some-seat_of.ensures c.take.ensures in
    let x = c.index_mut.result.now in
    let was = c.index_mut-book.result.now in
    let found = element_some c.take.new.self.nodes.items s.node.0 x (element_within c.take.new.self.nodes.items s.node.0 b.at b.found) c.index_mut.ensures.value in
    let at = element_some x.books.items s.place was (place_within c.args.self.now c.take.new.self c.in-Some.above.0 s c.take.result x c.in-Some-seat_of.ensures c.take.ensures found) c.index_mut-book.ensures.value in
    up_shows g.F.Files g.R.Roads g.I.LinkIn g.O.LinkOut c.args.self.now c.take.new.self _ c.follow.new.self c.args.conn c.in-Some.above s c.in-Some-take.member was c.mirror_up-left.new.book c.mirror_up-left.result c.follow.result
    c.args.roads.now c.mirror_up-left.new.roads c.in-Some-seat_of.ensures (sym c.above.ensures ∙ c.in-Some.is) c.in-Some-take.ensures (book_found c.take.new.self.nodes.items s.node.0 s.place x found ∙ at)
    (book_set c.take.new.self _ s.node.0 s.place x (record { books = with_item x.books s.place c.mirror_up-left.new.book }) was c.mirror_up-left.new.book refl refl found at refl refl)
    c.mirror_up-left.ensures.shows c.follow.ensures

pub returns-in_default-take-clause-sizes : goal.returns-in_default-take-clause-sizes
returns-in_default-take-clause-sizes g c = take_sizes c.args.self.now c.take.new.self c.in-Some-seat_of.seat.conn c.take.result c.take.ensures

pub returns-clause-sizes : goal.returns-clause-sizes
returns-clause-sizes g c =
    let s = c.in-Some-seat_of.seat in
    let b = books_of c.args.self.now c.take.new.self c.in-Some.above.0 s c.take.result c.in-Some-seat_of.ensures c.take.ensures in
    let x = c.index_mut.result.now in
    let found = element_some c.take.new.self.nodes.items s.node.0 x (element_within c.take.new.self.nodes.items s.node.0 b.at b.found) c.index_mut.ensures.value in
    event_sizes c.args.self.now c.take.new.self _ c.follow.new.self s c.take.result x (record { books = with_item x.books s.place c.mirror_up-left.new.book }) c.mirror_up-left.new.book c.mirror_up-left.result c.follow.result
    c.take.ensures refl found refl refl c.follow.ensures
