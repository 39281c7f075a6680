-- Shelves that stand for nodes: those of opened nodes do, and nodes for which they stand can be closed.
use Rattle.std.proofs.Common.{◌≡◌, ◌<◌, ◌≤◌, ◌+◌, ℕ, zero, suc, Bool, true, false, List, [], ◌∷◌, length, take, slice_get, Some, IfSome, refl, sym, ap, subst, ◌∙◌, arith}
use Rattle.std.specs.Prelude.{◌&&◌, ◌||◌, not, min, ◌^◌, ◌-◌}
use Rattle.std.proofs.lemmas.List.{take_all}
use Rattle.hd_base.specs.Faults.{FaultsIncreased, CarriesFaults}
use Rattle.hd_base.specs.FileMaps.{no_files}
use Rattle.hd_base.specs.declared.files.Files as files
use Rattle.hd_base.specs.declared.numbers.BlockId.{BlockId}
use Rattle.hd_base.specs.declared.numbers.NodeId.{NodeId}
use Rattle.hd_base.specs.declared.shelves.Shelf as shelves
use Rattle.play_nodes.specs.declared.nodes.NodeBooks.{NodeBooks}
use Rattle.play_nodes.specs.declared.nodes.Nodes.{Nodes}
use Rattle.play_nodes.specs.Places.{book_at}
use Rattle.play_nodes.proofs.Tables.{element}
use Rattle.play_nodes.proofs.PlaceLaws.{element_within, same_some}
use Rattle.play_nodes.specs.ReplicaFiles.BookState.{BookState}
use Rattle.node_opening.specs.Closing.{faults_of, TheyLend, NodeCloses, NodesClose}
use Rattle.node_opening.specs.Emptiness.{ShelfRose}
use Rattle.node_opening.specs.Laws.{NeverFell, HaveClosed, StandingNodes}
use Rattle.node_opening.specs.Lending.{HasBooks}
use Rattle.node_opening.specs.Opening.{IsOpened}
use Rattle.node_opening.specs.Shelves.{is_among, AreDistinct, AllEmpty, EachShelf, LendsNoMore}
use Rattle.node_opening.specs.Standing.{ShelfStands, ShelvesStand, AllLentOut}
use Rattle.node_opening.proofs.CloseLemmas.{FoundAt, found_by, among_front, length_blocks}

-- NUMBERS

same_le : (p q : ℕ) → p ≡ q → p ≤ q
same_le p q e = omega (arith, e)

up : (p q r : ℕ) → p ≤ q → q ≤ r → p ≤ r
up p q r h h' = omega (arith, h, h')

-- A count that rose is risen later.
rose_on : (a b c : ℕ) → FaultsIncreased a b → b ≤ c → FaultsIncreased a c
rose_on a b c h h' = omega (arith, h, h')

-- A count that was carried rose, where what was added isn't 0.
rose_by : (before mid more now : ℕ) → before ≤ mid → 0 < more → CarriesFaults mid more now → FaultsIncreased before now
rose_by before mid more now le some c = below (before + 1) (mid + more) (2 ^ 64 - 1) now (step before mid more le some) c.counted
  where
    step : (a b m : ℕ) → a ≤ b → 0 < m → a + 1 ≤ b + m
    step a b m h h' = omega (arith, h, h')

    below : (a b top n : ℕ) → a ≤ b → min b top ≤ n → min a top ≤ n
    below a b top n h h' = omega (arith, h, h')

more_left : (a b : ℕ) → 0 < a → 0 < a + b
more_left a b h = omega (arith, h)

more_right : (a b : ℕ) → 0 < b → 0 < a + b
more_right a b h = omega (arith, h)

-- The faults of a book are among those of all.
counted : {D : Type 0} (d : files.Ghosts D) (books : List (BookState D)) (place : ℕ) (book : BookState D) → slice_get books place ≡ Some book → 0 < d.faults book.drawer → 0 < faults_of d books
counted d [] place book at some = cc
counted {D} d (x ∷ books) zero book at some = more_left (d.faults x.drawer) (faults_of d books) (subst (λ (y : BookState D). 0 < d.faults y.drawer) (sym (same_some x book at)) some)
counted d (x ∷ books) (suc place) book at some = more_right (d.faults x.drawer) (faults_of d books) (counted d books place book at some)

-- LENT BLOCKS

lent_so : (p q r : Bool) → p ≡ (q || r) → q ≡ true → p ≡ true
lent_so p true r e h = e
lent_so p false r e h = cc

free_so : (p q r : Bool) → p ≡ (q || r) → q ≡ false → r ≡ false → p ≡ false
free_so p true r e h k = cc
free_so p false r e h k = e ∙ k

and_gone : (p q : Bool) → q ≡ true → (p && not q) ≡ false
and_gone true true h = refl
and_gone false true h = refl
and_gone p false h = cc

and_none : (p q : Bool) → p ≡ false → (p && not q) ≡ false
and_none true q h = cc
and_none false q h = refl

-- OPENED NODES

module _ {S D : Type 0} (s : shelves.Ghosts S D) (d : files.Ghosts D) where
  books_count : (blocks : List BlockId) (a b : S) (books : List (BookState D)) → HasBooks s d blocks a b books → length books ≡ length blocks
  books_count blocks a b books h = sym (length_blocks books) ∙ ap length h.are.blocks_are

  has_stood : (blocks : List BlockId) (a b : S) (books : List (BookState D)) → HasBooks s d blocks a b books → ShelfStands s blocks (length books) a b
  has_stood blocks a b books h =
      let few : length books ≡ length blocks = books_count blocks a b books h in
      record {
        within = same_le (length books) (length blocks) few;
        lent = λ n among. lent_so (s.lent b n) (is_among blocks n) (s.lent a n) (h.has_lent.lent n) (among_front blocks (length books) n among);
        no_more = λ n none out.
            let all : take (length books) blocks ≡ blocks = take_all (length books) blocks (same_le (length blocks) (length books) (sym few)) in
            free_so (s.lent b n) (is_among blocks n) (s.lent a n) (h.has_lent.lent n) (ap (λ (bs : List BlockId). is_among bs n) (sym all) ∙ out) none;
        never_falls = h.has_lent.never_falls;
      }

module _ {S D I O : Type 0} (s : shelves.Ghosts S D) (d : files.Ghosts D) where
  opened_shelves : (blocks : List BlockId) (old new : List S) (n : Nodes D I O) → AreDistinct blocks → IsOpened s d blocks old new n → ShelvesStand s old new n
  opened_shelves blocks old new n distinct h = record {
    count = h.have_books.shelves_stay;
    nodes = h.have_books.count;
    distinct = subst AreDistinct (sym h.blocks_are) distinct;
    each = λ k a b x was is here. subst (λ (bs : List BlockId). ShelfStands s bs (length x.books.items) a b) (sym h.blocks_are) (has_stood s d blocks a b x.books.items (h.have_books.each k a b x was is here));
  }

  opened_books : (blocks : List BlockId) (old new : List S) (n : Nodes D I O) → IsOpened s d blocks old new n → (k : ℕ) (x : NodeBooks D) → slice_get n.nodes.items k ≡ Some x → length x.books.items ≡ length n.blocks.items
  opened_books blocks old new n h k x here =
      let books = h.have_books in
      let below : k < length old = subst (λ (m : ℕ). k < m) books.count (element_within n.nodes.items k x here) in
      let a = element old k below in
      let b = element new k (subst (λ (m : ℕ). k < m) (sym books.shelves_stay) below) in
      books_count s d blocks a.0 b.0 x.books.items (books.each k a.0 b.0 x a.1 b.1 here) ∙ ap length (sym h.blocks_are)

  opened_empty : (blocks : List BlockId) (old new : List S) (n : Nodes D I O) → IsOpened s d blocks old new n → AllEmpty s new
  opened_empty blocks old new n h k b at =
      let books = h.have_books in
      let below : k < length old = subst (λ (m : ℕ). k < m) books.shelves_stay (element_within new k b at) in
      let a = element old k below in
      let x = element n.nodes.items k (subst (λ (m : ℕ). k < m) (sym books.count) below) in
      subst (λ (f : _). IfSome f (λ m. m ≡ no_files)) (sym (books.each k a.0 b x.0 a.1 at x.1).has_lent.files) (h.empty k a.0 a.1)

  pub opened_stand : (blocks : List BlockId) (old new : List S) (n : Nodes D I O) → AreDistinct blocks → IsOpened s d blocks old new n → ShelvesStand s old new n × AllLentOut s new n
  opened_stand blocks old new n distinct h = (
    opened_shelves blocks old new n distinct h,
    record {
      books = λ k x here. opened_books blocks old new n h k x here;
      empty = opened_empty blocks old new n h;
    },
  )

-- NODES THAT ARE CLOSED

module _ {S D : Type 0} (s : shelves.Ghosts S D) (d : files.Ghosts D) where
  -- A shelf that stood for a node and was closed.
  pub record ShelfClosed (blocks : List BlockId) (before now closed : S) (x : NodeBooks D) : Type 0 where
    pub stood : ShelfStands s blocks (length x.books.items) before now
    pub closes : NodeCloses s d blocks x.books.items now closed

  shelf_lends : (blocks : List BlockId) (a b z : S) (x : NodeBooks D) → ShelfClosed blocks a b z x → LendsNoMore s a z
  shelf_lends blocks a b z x h n none = by (is_among (take (length x.books.items) blocks) n) refl
    where
      by : (q : Bool) → is_among (take (length x.books.items) blocks) n ≡ q → s.lent z n ≡ false
      by true e = h.closes.lent n ∙ and_gone (s.lent b n) (is_among (take (length x.books.items) blocks) n) e
      by false e = h.closes.lent n ∙ and_none (s.lent b n) (is_among (take (length x.books.items) blocks) n) (h.stood.no_more n none e)

  shelf_never_falls : (blocks : List BlockId) (a b z : S) (x : NodeBooks D) → ShelfClosed blocks a b z x → s.faults a ≤ s.faults z
  shelf_never_falls blocks a b z x h = up (s.faults a) (s.faults b) (s.faults z) h.stood.never_falls h.closes.count.never_falls

-- What stands in three lists, of shelves before the play, now and closed, and in that of the nodes.
pub record Stands {S D : Type 0} (before now closed : List S) (nodes : List (NodeBooks D)) (k : ℕ) : Type 0 where
  pub a : S
  pub b : S
  pub z : S
  pub x : NodeBooks D
  pub was : slice_get before k ≡ Some a
  pub is : slice_get now k ≡ Some b
  pub end : slice_get closed k ≡ Some z
  pub here : slice_get nodes k ≡ Some x

module _ {S D I O : Type 0} (s : shelves.Ghosts S D) (d : files.Ghosts D) (before now : List S) (n : Nodes D I O) (h : ShelvesStand s before now n) where
  stand_lend : TheyLend s n.blocks.items n.nodes.items now
  stand_lend k b x m at here among =
      let below : k < length before = subst (λ (q : ℕ). k < q) h.count (element_within now k b at) in
      let a = element before k below in
      (h.each k a.0 b x a.1 at here).lent m among

  stand_never_fell : NeverFell s before now
  stand_never_fell = record {
    count = h.count;
    each = λ k a b was is.
        let x = element n.nodes.items k (subst (λ (q : ℕ). k < q) (sym h.nodes) (element_within before k a was)) in
        (h.each k a b x.0 was is x.1).never_falls;
  }

  module _ (closed : List S) (close : NodesClose s d n.blocks.items n.nodes.items now closed) where
    all_stand : (k : ℕ) → k < length before → Stands before now closed n.nodes.items k
    all_stand k below =
        let a = element before k below in
        let b = element now k (subst (λ (q : ℕ). k < q) (sym h.count) below) in
        let z = element closed k (subst (λ (q : ℕ). k < q) (sym (close.count ∙ h.count)) below) in
        let x = element n.nodes.items k (subst (λ (q : ℕ). k < q) (sym h.nodes) below) in
        record { a = a.0; b = b.0; z = z.0; x = x.0; was = a.1; is = b.1; end = z.1; here = x.1 }

    shelf_closed : (k : ℕ) (t : Stands before now closed n.nodes.items k) → ShelfClosed s d n.blocks.items t.a t.b t.z t.x
    shelf_closed k t =
        let stood = h.each k t.a t.b t.x t.was t.is t.here in
        record {
          stood = stood;
          closes = subst (λ (bs : List (BookState D)). NodeCloses s d n.blocks.items bs t.b t.z) (take_all (length n.blocks.items) t.x.books.items stood.within) (close.each k t.b t.z t.x t.is t.end t.here);
        }

    -- What is so of each shelf that stood and was closed is so of all.
    all_closed : (P : S → S → Type 0) → ((a b z : S) (x : NodeBooks D) → ShelfClosed s d n.blocks.items a b z x → P a z) → EachShelf P before closed
    all_closed P f = record {
      count = close.count ∙ h.count;
      each = λ k a z was end.
          let t = all_stand k (element_within before k a was) in
          let p : P t.a t.z = f t.a t.b t.z t.x (shelf_closed k t) in
          subst (λ (y : S). P y z) (same_some t.a a (sym t.was ∙ was)) (subst (λ (y : S). P t.a y) (same_some t.z z (sym t.end ∙ end)) p);
    }

    rose_in : (node : NodeId) → ShelfRose s before now node → ShelfRose s before closed node
    rose_in node r =
        let k = node.0 in
        let t = all_stand k (element_within before k r.before r.was) in
        let a : r.before ≡ t.a = same_some r.before t.a (sym r.was ∙ t.was) in
        let b : r.after ≡ t.b = same_some r.after t.b (sym r.is ∙ t.is) in
        let rose : FaultsIncreased (s.faults t.a) (s.faults t.b) =
        subst (λ (y : S). FaultsIncreased (s.faults y) (s.faults t.b)) a (subst (λ (y : S). FaultsIncreased (s.faults r.before) (s.faults y)) b r.so) in
        record { before = t.a; after = t.z; was = t.was; is = t.end; so = rose_on (s.faults t.a) (s.faults t.b) (s.faults t.z) rose (shelf_closed k t).closes.count.never_falls }

    failed_in : (node : NodeId) (place : ℕ) (x : BookState D) → book_at n.nodes.items node.0 place ≡ Some x → 0 < d.faults x.drawer → ShelfRose s before closed node
    failed_in node place x at failed =
        let k = node.0 in
        let found : FoundAt n.nodes.items k place x = found_by n.nodes.items k place x (slice_get n.nodes.items k) refl at in
        let t = all_stand k (subst (λ (q : ℕ). k < q) h.nodes (element_within n.nodes.items k found.at found.here)) in
        let same : found.at ≡ t.x = same_some found.at t.x (sym found.here ∙ t.here) in
        let there : slice_get t.x.books.items place ≡ Some x = subst (λ (y : NodeBooks D). slice_get y.books.items place ≡ Some x) same found.there in
        let so = shelf_closed k t in
        record {
          before = t.a;
          after = t.z;
          was = t.was;
          is = t.end;
          so = rose_by (s.faults t.a) (s.faults t.b) (faults_of d t.x.books.items) (s.faults t.z) so.stood.never_falls (counted d t.x.books.items place x there failed) so.closes.count;
        }

    have_closed : HaveClosed s d before now closed n
    have_closed = record {
      lent = all_closed (LendsNoMore s) (λ a b z x so. shelf_lends s d n.blocks.items a b z x so);
      never_fell = all_closed (λ a z. s.faults a ≤ s.faults z) (λ a b z x so. shelf_never_falls s d n.blocks.items a b z x so);
      rose = rose_in;
      failed = failed_in;
    }

  pub standing_close : StandingNodes s d before now n
  standing_close = record {
    never_fell = stand_never_fell;
    lend = stand_lend;
    closed = λ closed close. have_closed closed close;
  }
