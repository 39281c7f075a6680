-- A request was set up with the book of its block, or there is none.
use Rattle.std.specs.Vec.{with_item}
use Rattle.std.proofs.Common.{◌<◌, ℕ, Ok, Err, length, inl, inr, refl, sym, ap, ◌∙◌, subst}
use Rattle.play_nodes.specs.Places.{book_at}
use Rattle.play_nodes.proofs.PlaceLaws.{none_if, same_some, element_some, element_within, book_within, book_found, book_set}
use Rattle.play_nodes.proofs.SizeLaws.{sizes_after, book_sizes}
use Rattle.play_nodes.proofs.nodes.Nodes.join.Goals as goal

pub returns-in_default-clause-joins : goal.returns-in_default-clause-joins
returns-in_default-clause-joins g c = inr (record { same = refl; roads = refl; is = refl; none = λ place is. absurd (c.in_default.not-Some place (c.place_of.ensures ∙ is)) })

pub returns-then-not-has_book-clause-joins : goal.returns-then-not-has_book-clause-joins
returns-then-not-has_book-clause-joins g c = inr (record {
  same = refl;
  roads = refl;
  is = refl;
  none = λ place is. ap (book_at c.args.self.now.nodes.items c.args.node.0) (same_some place c.in-Some.place (sym is ∙ (sym c.place_of.ensures ∙ c.in-Some.is))) ∙
      none_if (book_at c.args.self.now.nodes.items c.args.node.0 c.in-Some.place) (sym c.has_book.ensures ∙ c.if-not-has_book.true);
})

pub index_mut-requires : goal.index_mut-requires
index_mut-requires g c =
    let b = book_within c.args.self.now.nodes.items c.args.node.0 c.in-Some.place (sym c.has_book.ensures ∙ c.if-not-has_book.false) in
    subst (λ (k : ℕ). c.args.node.0 < k) (sym c.args.self.now.nodes.ok.0) (element_within c.args.self.now.nodes.items c.args.node.0 b.at b.found)

pub index_mut-book-requires : goal.index_mut-book-requires
index_mut-book-requires g c =
    let b = book_within c.args.self.now.nodes.items c.args.node.0 c.in-Some.place (sym c.has_book.ensures ∙ c.if-not-has_book.false) in
    let x = c.index_mut.result.now in
    let found = element_some c.args.self.now.nodes.items c.args.node.0 x (element_within c.args.self.now.nodes.items c.args.node.0 b.at b.found) c.index_mut.ensures.value in
    subst (λ (k : ℕ). c.in-Some.place < k) (sym x.books.ok.0) (subst (λ y. c.in-Some.place < length y.books.items) (same_some b.at x (sym b.found ∙ found)) b.within)

pub returns-in-Ok-clause-joins : goal.returns-in-Ok-clause-joins
returns-in-Ok-clause-joins g c =
    let b = book_within c.args.self.now.nodes.items c.args.node.0 c.in-Some.place (sym c.has_book.ensures ∙ c.if-not-has_book.false) in
    let x = c.index_mut.result.now in
    let was = c.index_mut-book.result.now in
    let found = element_some c.args.self.now.nodes.items c.args.node.0 x (element_within c.args.self.now.nodes.items c.args.node.0 b.at b.found) c.index_mut.ensures.value in
    let within = subst (λ y. c.in-Some.place < length y.books.items) (same_some b.at x (sym b.found ∙ found)) b.within in
    let at = element_some x.books.items c.in-Some.place was within c.index_mut-book.ensures.value in
    inl (record {
      place = c.in-Some.place;
      at_place = sym c.place_of.ensures ∙ c.in-Some.is;
      book = was;
      book' = c.join.new.book;
      at_book = book_found c.args.self.now.nodes.items c.args.node.0 c.in-Some.place x found ∙ at;
      next = record { 0 = c.len.result };
      next_is = c.len.ensures ∙ c.args.self.now.connections.ok.0;
      mirror = c.mirror_node-mirror.result;
      mirror_is = c.mirror_node-mirror.ensures;
      set = _;
      is_set = book_set c.args.self.now _ c.args.node.0 c.in-Some.place x (record { books = with_item x.books c.in-Some.place c.join.new.book }) was c.join.new.book refl refl found at refl refl;
      joined = Ok c.in-Ok.joined;
      shows = c.in-Ok.ensures.shows;
      follows = c.settle.ensures.settled;
    })

pub returns-in-Err-clause-joins : goal.returns-in-Err-clause-joins
returns-in-Err-clause-joins g c =
    let b = book_within c.args.self.now.nodes.items c.args.node.0 c.in-Some.place (sym c.has_book.ensures ∙ c.if-not-has_book.false) in
    let x = c.index_mut.result.now in
    let was = c.index_mut-book.result.now in
    let found = element_some c.args.self.now.nodes.items c.args.node.0 x (element_within c.args.self.now.nodes.items c.args.node.0 b.at b.found) c.index_mut.ensures.value in
    let within = subst (λ y. c.in-Some.place < length y.books.items) (same_some b.at x (sym b.found ∙ found)) b.within in
    let at = element_some x.books.items c.in-Some.place was within c.index_mut-book.ensures.value in
    inl (record {
      place = c.in-Some.place;
      at_place = sym c.place_of.ensures ∙ c.in-Some.is;
      book = was;
      book' = c.join.new.book;
      at_book = book_found c.args.self.now.nodes.items c.args.node.0 c.in-Some.place x found ∙ at;
      next = record { 0 = c.len.result };
      next_is = c.len.ensures ∙ c.args.self.now.connections.ok.0;
      mirror = c.mirror_node-mirror.result;
      mirror_is = c.mirror_node-mirror.ensures;
      set = _;
      is_set = book_set c.args.self.now _ c.args.node.0 c.in-Some.place x (record { books = with_item x.books c.in-Some.place c.join.new.book }) was c.join.new.book refl refl found at refl refl;
      joined = Err c.in-Err.fault;
      shows = c.in-Err.ensures.shows;
      follows = (refl, ap Err c.fault_at.ensures);
    })

pub returns-in-Ok-clause-sizes : goal.returns-in-Ok-clause-sizes
returns-in-Ok-clause-sizes g c =
    let b = book_within c.args.self.now.nodes.items c.args.node.0 c.in-Some.place (sym c.has_book.ensures ∙ c.if-not-has_book.false) in
    let x = c.index_mut.result.now in
    let found = element_some c.args.self.now.nodes.items c.args.node.0 x (element_within c.args.self.now.nodes.items c.args.node.0 b.at b.found) c.index_mut.ensures.value in
    sizes_after c.args.self.now _ c.settle.new.self (book_sizes c.args.self.now _ c.args.node.0 c.in-Some.place x (record { books = with_item x.books c.in-Some.place c.join.new.book }) c.join.new.book refl found refl refl) c.settle.ensures.sizes

pub returns-in-Err-clause-sizes : goal.returns-in-Err-clause-sizes
returns-in-Err-clause-sizes g c =
    let b = book_within c.args.self.now.nodes.items c.args.node.0 c.in-Some.place (sym c.has_book.ensures ∙ c.if-not-has_book.false) in
    let x = c.index_mut.result.now in
    let found = element_some c.args.self.now.nodes.items c.args.node.0 x (element_within c.args.self.now.nodes.items c.args.node.0 b.at b.found) c.index_mut.ensures.value in
    book_sizes c.args.self.now _ c.args.node.0 c.in-Some.place x (record { books = with_item x.books c.in-Some.place c.join.new.book }) c.join.new.book refl found refl refl
