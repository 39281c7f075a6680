-- The member took what stood next from above, and what is left of it is back in its place.
use Rattle.std.specs.Vec.{with_item}
use Rattle.std.proofs.Common.{refl, subst, ◌<◌, ℕ, sym, ap, ◌∙◌}
use Rattle.std.specs.Prelude.{nat_lt}
use Rattle.member_events.specs.Writes.{written_of}
use Rattle.play_nodes.specs.Places.{IsSeat, Takes}
use Rattle.play_nodes.proofs.PlaceLaws.{none_so, element_some, element_within, book_found, book_set}
use Rattle.play_nodes.proofs.SizeLaws.{take_sizes, followed_sizes, down_sizes}
use Rattle.play_nodes.proofs.LiftLaws.{seat_within, taken_within, books_of, place_within, lifted_known}
use Rattle.play_nodes.proofs.ReadyNodes.{is_seated, taken_none}
use Rattle.play_nodes.proofs.TakeNodes.{takes_at, down_shows}
use Rattle.play_nodes.proofs.nodes.Nodes.member_down.Goals as goal

pub returns-in_default-clause-shows : goal.returns-in_default-clause-shows
returns-in_default-clause-shows g c = λ w net queues answered stands of lawful due busy.
    let taking = takes_at w c.args.conn queues due in
    absurd (is_seated g.R.Roads g.I.LinkIn g.O.LinkOut w net c.args.roads.now c.args.conn.0 c.args.self.now stands of lawful.placed taking.events busy
    (subst (λ x. IsSeat c.args.self.now c.args.conn.0 x) (none_so c.seat_of.result c.in_default.not-Some) c.seat_of.ensures))

pub returns-in_default-take-clause-shows : goal.returns-in_default-take-clause-shows
returns-in_default-take-clause-shows g c = λ w net queues answered stands of lawful due busy.
    absurd (taken_none c.args.self.now c.take.new.self c.args.conn.0 c.in-Some.seat c.in-Some.ensures
    (subst (λ x. Takes c.args.self.now c.take.new.self c.in-Some.seat.conn x) (none_so c.take.result c.in_default-take.not-Some) c.take.ensures))

pub take-requires : goal.take-requires
take-requires g c = seat_within c.args.self.now c.args.conn.0 c.in-Some.seat c.in-Some.ensures

pub index_mut-requires : goal.index_mut-requires
index_mut-requires g c =
    let b = books_of c.args.self.now c.take.new.self c.args.conn.0 c.in-Some.seat c.take.result c.in-Some.ensures c.take.ensures in
    subst (λ (k : ℕ). c.in-Some.seat.node.0 < k) (sym c.take.new.self.nodes.ok.0) (element_within c.take.new.self.nodes.items c.in-Some.seat.node.0 b.at b.found)

pub index_mut-book-requires : goal.index_mut-book-requires
index_mut-book-requires g c =
    let b = books_of c.args.self.now c.take.new.self c.args.conn.0 c.in-Some.seat c.take.result c.in-Some.ensures c.take.ensures in
    let x = c.index_mut.result.now in
    let found = element_some c.take.new.self.nodes.items c.in-Some.seat.node.0 x (element_within c.take.new.self.nodes.items c.in-Some.seat.node.0 b.at b.found) c.index_mut.ensures.value in
    subst (λ (k : ℕ). c.in-Some.seat.place < k) (sym x.books.ok.0) (place_within c.args.self.now c.take.new.self c.args.conn.0 c.in-Some.seat c.take.result x c.in-Some.ensures c.take.ensures found)

pub member_down-ended-requires-after_bounds : goal.member_down-ended-requires-after_bounds
member_down-ended-requires-after_bounds g c κs within =
    lifted_known g.R.Roads g.I.LinkIn g.O.LinkOut c.args.roads.now c.args.self.now c.take.new.self c.args.conn.0 c.in-Some.seat c.in-Some-take.member c.requires c.in-Some.ensures c.in-Some-take.ensures

pub follow_down-requires : goal.follow_down-requires
follow_down-requires g c = taken_within c.args.self.now c.take.new.self c.args.conn.0 c.in-Some.seat c.take.result c.in-Some.ensures c.take.ensures

pub returns-clause-shows : goal.returns-clause-shows
returns-clause-shows g c =
    let s = c.in-Some.seat in
    let b = books_of c.args.self.now c.take.new.self c.args.conn.0 s c.take.result c.in-Some.ensures c.take.ensures in
    let x = c.index_mut.result.now in
    let was = c.index_mut-book.result.now in
    let found = element_some c.take.new.self.nodes.items s.node.0 x (element_within c.take.new.self.nodes.items s.node.0 b.at b.found) c.index_mut.ensures.value in
    let at = element_some x.books.items s.place was (place_within c.args.self.now c.take.new.self c.args.conn.0 s c.take.result x c.in-Some.ensures c.take.ensures found) c.index_mut-book.ensures.value in
    down_shows g.F.Files g.R.Roads g.I.LinkIn g.O.LinkOut c.args.self.now c.take.new.self _ c.follow_down.new.self c.args.conn s c.in-Some-take.member was c.member_down-ended.new.book c.member_down-ended.result (nat_lt c.written_of-before.result c.written_of.result) c.follow_down.result
    c.args.roads.now c.member_down-ended.new.roads c.in-Some.ensures c.in-Some-take.ensures (book_found c.take.new.self.nodes.items s.node.0 s.place x found ∙ at)
    (book_set c.take.new.self _ s.node.0 s.place x (record { books = with_item x.books s.place c.member_down-ended.new.book }) was c.member_down-ended.new.book refl refl found at refl refl)
    c.member_down-ended.ensures.shows (ap (λ (k : ℕ). nat_lt k c.written_of.result) c.written_of-before.ensures ∙ ap (λ (k : ℕ). nat_lt (written_of was) k) c.written_of.ensures) c.follow_down.ensures

pub returns-in_default-take-clause-sizes : goal.returns-in_default-take-clause-sizes
returns-in_default-take-clause-sizes g c = take_sizes c.args.self.now c.take.new.self c.in-Some.seat.conn c.take.result c.take.ensures

pub returns-clause-sizes : goal.returns-clause-sizes
returns-clause-sizes g c =
    let s = c.in-Some.seat in
    let b = books_of c.args.self.now c.take.new.self c.args.conn.0 s c.take.result c.in-Some.ensures c.take.ensures in
    let x = c.index_mut.result.now in
    let found = element_some c.take.new.self.nodes.items s.node.0 x (element_within c.take.new.self.nodes.items s.node.0 b.at b.found) c.index_mut.ensures.value in
    followed_sizes c.args.self.now c.take.new.self _ c.follow_down.new.self s c.take.result x (record { books = with_item x.books s.place c.member_down-ended.new.book }) c.member_down-ended.new.book
    c.take.ensures refl found refl refl (down_sizes _ c.follow_down.new.self s c.member_down-ended.result _ c.follow_down.result c.follow_down.ensures)
