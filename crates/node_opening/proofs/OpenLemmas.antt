-- Nodes that were opened show the first world.
use Rattle.std.proofs.Common.{◌≡◌, ◌<◌, ℕ, zero, suc, List, [], ◌∷◌, length, slice_get, Option, Some, None, IsSome, refl, sym, ap, subst, ◌∙◌}
use Rattle.hd_base.specs.declared.numbers.BlockId.{BlockId}
use Rattle.hd_base.specs.declared.files.Files as files
use Rattle.hd_base.specs.declared.links.LinkIn as link_in
use Rattle.hd_base.specs.declared.links.LinkOut as link_out
use Rattle.hd_base.specs.declared.roads.Roads as roads
use Rattle.hd_base.specs.declared.shelves.Shelf as shelves
use Rattle.road_traffic.specs.Showing.{Net, RoadsShow}
use Rattle.std.specs.Prelude.{Bool, true, false, ◌||◌}
use Rattle.play_nodes.specs.ReplicaModel.Rows.{FullReplica, nothing}
use Rattle.play_nodes.specs.ReplicaFiles.BookState.{BookState}
use Rattle.play_nodes.specs.ReplicaFiles.Books.{replica_of}
use Rattle.play_nodes.specs.ReplicaFiles.Endings.{IsNew}
use Rattle.play_nodes.specs.declared.nodes.NodeBooks.{NodeBooks}
use Rattle.play_nodes.specs.declared.nodes.Nodes.{Nodes}
use Rattle.play_nodes.specs.declared.connections.Connection.{Connection}
use Rattle.play_nodes.specs.Places.{book_at}
use Rattle.play_nodes.specs.Showing.{NodesShow, NodesStand, ConnectionShows}
use Rattle.play_nodes.proofs.Tables.{element}
use Rattle.play_nodes.proofs.PlaceLaws.{element_within, same_some, book_found}
use Rattle.play_nodes.specs.World.Worlds.{World, start}
use Rattle.play_nodes.specs.WorldNets.Starts.{StartsAreNets}
use Rattle.node_opening.specs.Shelves.{AreDistinct}
use Rattle.node_opening.specs.Closing.{block_of, blocks_of, TheyLend, NodesFit}
use Rattle.node_opening.proofs.CloseLemmas.{FoundAt, found_by, block_at, among_front}
use Rattle.node_opening.proofs.LendLemmas.{new_replica, new_block}
use Rattle.node_opening.specs.Lending.{HasBooks, HaveBooks}
use Rattle.node_opening.specs.Listening.{opened_net}
use Rattle.node_opening.specs.Laws.{CanClose}
use Rattle.play_nodes.specs.WorldLaws.Filling.{Filled}
use Rattle.node_opening.specs.Opening.{IsOpened}
use Rattle.node_opening.proofs.ListenLemmas.{net_unused}
use Rattle.std.specs.Prelude.{IfSome, option_map}
use Rattle.hd_base.specs.FileMaps.{FileMap, no_files}
use Rattle.node_opening.specs.declared.faults.OpenFault.{OpenFault}
use Rattle.node_opening.specs.declared.faults.OpenFault.TheVariants as fault
use Rattle.node_opening.specs.Shelves.{is_among, HasLent, IsGivenBack, EachShelf, AllEmpty}
use Rattle.node_opening.specs.Emptiness.{IsFaultOf}
use Rattle.node_opening.specs.Listening.{IsRoadFault}
use Rattle.node_opening.specs.Opening.{HasOpenCause}
use Rattle.node_opening.proofs.ListLemmas.{each_map, each_after}
use Rattle.node_opening.proofs.ShelfLemmas.{lent_after, given_none, given_lent, given_after}

-- BOOKS

place_at : {D : Type 0} (books : List (BookState D)) (k : ℕ) (block : BlockId) → slice_get (blocks_of books) k ≡ Some block → IsSome (slice_get books k)
place_at [] k block h = cc
place_at (y ∷ books) zero block h = refl
place_at (y ∷ books) (suc k) block h = place_at books k block h

module _ {S D : Type 0} (s : shelves.Ghosts S D) (d : files.Ghosts D) where
  books_new : (blocks : List BlockId) (old new : List S) (nodes : List (NodeBooks D)) → HaveBooks s d blocks old new nodes → (node : ℕ) (x : NodeBooks D) → slice_get nodes node ≡ Some x
      → (blocks_of x.books.items ≡ blocks) × ((k : ℕ) (y : BookState D) → slice_get x.books.items k ≡ Some y → IsNew y y.block y.drawer)
  books_new blocks old new nodes h node x here =
      let within : node < length old = subst (λ (n : ℕ). node < n) h.count (element_within nodes node x here) in
      let a = element old node within in
      let b = element new node (subst (λ (n : ℕ). node < n) (sym h.shelves_stay) within) in
      let has = h.each node a.0 b.0 x a.1 b.1 here in
      (has.are.blocks_are, λ k y at. (has.are.each k y at).absent)

  book_replica : (blocks : List BlockId) (old new : List S) (nodes : List (NodeBooks D)) → HaveBooks s d blocks old new nodes → (node place : ℕ) (block : BlockId) (book : BookState D) → slice_get blocks place ≡ Some block → book_at nodes node place ≡ Some book
      → replica_of book ≡ nothing block
  book_replica blocks old new nodes h node place block book at is =
      let f : FoundAt nodes node place book = found_by nodes node place book (slice_get nodes node) refl is in
      let n = books_new blocks old new nodes h node f.at f.here in
      let same : block_of book ≡ block = same_some (block_of book) block (sym (block_at f.at.books.items place book f.there) ∙ (ap (λ (bs : List BlockId). slice_get bs place) n.0 ∙ at)) in
      let fresh = n.1 place book f.there in
      new_replica book book.block book.drawer fresh ∙ ap nothing (sym (new_block book book.block book.drawer fresh) ∙ same)

  book_there : (blocks : List BlockId) (old new : List S) (nodes : List (NodeBooks D)) → HaveBooks s d blocks old new nodes → (node place : ℕ) (block : BlockId) → node < length old → slice_get blocks place ≡ Some block → IsSome (book_at nodes node place)
  book_there blocks old new nodes h node place block within at =
      let x = element nodes node (subst (λ (n : ℕ). node < n) (sym h.count) within) in
      let n = books_new blocks old new nodes h node x.0 x.1 in
      subst IsSome (sym (book_found nodes node place x.0 x.1)) (place_at x.0.books.items place block (ap (λ (bs : List BlockId). slice_get bs place) n.0 ∙ at))

-- THE FIRST WORLD

none_show : {D I O : Type 0} (i : link_in.Ghosts I) (o : link_out.Ghosts O) (w : World) (net : Net) (n : Nodes D I O) → n.connections.items ≡ [] → (c : ℕ) (x : Connection I O) → slice_get n.connections.items c ≡ Some x → ConnectionShows i o w net c n x
none_show i o w net n none c x h = absurd (nothing_at (sym (ap (λ xs. slice_get xs c) none) ∙ h))
  where
    nothing_at : None ≡ Some x → ⊥
    nothing_at e = cc

module _ {S D I O : Type 0} (s : shelves.Ghosts S D) (d : files.Ghosts D) (i : link_in.Ghosts I) (o : link_out.Ghosts O) where
  first_nodes : (blocks : List BlockId) (old new : List S) (n : Nodes D I O) → AreDistinct blocks → IsOpened s d blocks old new n → NodesShow i o (start (length old)) (opened_net (length old)) n
  unfolding start
  first_nodes blocks old new n distinct h = record {
    count = ap length h.none_dialled;
    distinct = subst (λ (bs : List BlockId). AreDistinct bs) (sym h.blocks_are) distinct;
    each = none_show i o (start (length old)) (opened_net (length old)) n h.none_dialled;
    books = λ node place block book at is. book_replica s d blocks old new n.nodes.items h.have_books node place block book (sym (ap (λ (bs : List BlockId). slice_get bs place) h.blocks_are) ∙ at) is;
    has_books = λ node place block within at. book_there s d blocks old new n.nodes.items h.have_books node place block within (sym (ap (λ (bs : List BlockId). slice_get bs place) h.blocks_are) ∙ at);
  }

module _ {S D R I O : Type 0} (s : shelves.Ghosts S D) (d : files.Ghosts D) (r : roads.Ghosts R I O) (i : link_in.Ghosts I) (o : link_out.Ghosts O) where
  pub first_stand : StartsAreNets → (blocks : List BlockId) (old new : List S) (n : Nodes D I O) (road : R) → AreDistinct blocks → IsOpened s d blocks old new n → RoadsShow r (opened_net (length old)) road
      → NodesStand r i o (start (length old)) (opened_net (length old)) road n
  first_stand starts blocks old new n road distinct h shows =
      let net = starts (length old) (opened_net (length old)) (net_unused (length old)) in
      record {
        roads_are = record { is_net = net.is_net; sane = net.sane; shows = shows };
        nodes_are = first_nodes s d i o blocks old new n distinct h;
      }

-- ONE AFTER THE OTHER

module _ {S D : Type 0} (s : shelves.Ghosts S D) (d : files.Ghosts D) where
  pub still_empty : (old mid : List S) → EachShelf (HasLent s []) old mid → AllEmpty s old → AllEmpty s mid
  still_empty old mid h empty k b at =
      let a = element old k (subst (λ (n : ℕ). k < n) h.count (element_within mid k b at)) in
      subst (λ (f : Option FileMap). IfSome f (λ m. m ≡ no_files)) (sym (h.each k a.0 b a.1 at).files) (empty k a.0 a.1)

  has_after : (blocks : List BlockId) (a b c : S) (books : List (BookState D)) → HasLent s [] a b → HasBooks s d blocks b c books → HasBooks s d blocks a c books
  has_after blocks a b c books p h = record {
    has_lent = lent_after s blocks a b c p h.has_lent;
    are = record {
      blocks_are = h.are.blocks_are;
      each = λ k x at.
          let n = h.are.each k x at in
          record { absent = n.absent; files_are = n.files_are ∙ ap (λ (f : Option FileMap). option_map (λ _. no_files) f) p.files; no_faults = n.no_faults };
    };
  }

  pub books_after : (blocks : List BlockId) (old mid new : List S) (nodes : List (NodeBooks D)) → EachShelf (HasLent s []) old mid → HaveBooks s d blocks mid new nodes → HaveBooks s d blocks old new nodes
  books_after blocks old mid new nodes p h = record {
    shelves_stay = h.shelves_stay ∙ p.count;
    count = h.count ∙ p.count;
    each = λ k a c x was is here.
        let m = element mid k (subst (λ (n : ℕ). k < n) (sym p.count) (element_within old k a was)) in
        has_after blocks a m.0 c x.books.items (p.each k a m.0 was m.1) (h.each k m.0 c x m.1 is here);
  }

module _ {S D : Type 0} (s : shelves.Ghosts S D) where
  pub given_same : (xs : List S) → EachShelf (IsGivenBack s) xs xs
  given_same xs = record { count = refl; each = λ k a b was is. subst (λ (q : S). IsGivenBack s a q) (same_some a b (sym was ∙ is)) (given_none s a) }

  pub given_checked : (old mid : List S) → EachShelf (HasLent s []) old mid → EachShelf (IsGivenBack s) old mid
  given_checked old mid h = each_map (HasLent s []) (IsGivenBack s) old mid (given_lent s) h

  pub given_both : (old mid new : List S) → EachShelf (HasLent s []) old mid → EachShelf (IsGivenBack s) mid new → EachShelf (IsGivenBack s) old new
  given_both old mid new p q = each_after (HasLent s []) (IsGivenBack s) (IsGivenBack s) old mid new (λ a b c h g. given_after s a b c (given_lent s a b h) g) p q

module _ {R I O S D : Type 0} (r : roads.Ghosts R I O) (s : shelves.Ghosts S D) where
  pub cause_road : (road road' : R) (old new : List S) (why : OpenFault) → IsRoadFault (r.faults road) (r.faults road') why → HasOpenCause r s road road' old new why
  cause_road road road' old new fault.RoadFault h = h
  cause_road road road' old new fault.Memory h = tt
  cause_road road road' old new (fault.ShelfFault node) h = absurd h
  cause_road road road' old new (fault.NotEmpty node name) h = absurd h

  pub cause_shelf : (road road' : R) (old new : List S) (why : OpenFault) → IsFaultOf s old new why → HasOpenCause r s road road' old new why
  cause_shelf road road' old new fault.RoadFault h = absurd h
  cause_shelf road road' old new fault.Memory h = tt
  cause_shelf road road' old new (fault.ShelfFault node) h = h
  cause_shelf road road' old new (fault.NotEmpty node name) h = h

  pub cause_memory : (road road' : R) (old new : List S) (why : OpenFault) → why ≡ fault.Memory → HasOpenCause r s road road' old new why
  cause_memory road road' old new why e = subst (λ (q : OpenFault). HasOpenCause r s road road' old new q) (sym e) tt

-- THE WHOLE

module _ {S D I O : Type 0} (s : shelves.Ghosts S D) (d : files.Ghosts D) where
  pub opened : (blocks : List BlockId) (old mid new : List S) (n : Nodes D I O) → n.blocks.items ≡ blocks → n.connections.items ≡ [] → EachShelf (HasLent s []) old mid × AllEmpty s old → HaveBooks s d blocks mid new n.nodes.items → IsOpened s d blocks old new n
  opened blocks old mid new n same none checked h = record {
    blocks_are = same;
    none_dialled = none;
    empty = checked.1;
    have_books = books_after s d blocks old mid new n.nodes.items checked.0 h;
  }

  opened_lend : (blocks : List BlockId) (old new : List S) (n : Nodes D I O) (nodes : List (NodeBooks D)) → IsOpened s d blocks old new n → TheyLend s blocks nodes new
  opened_lend blocks old new n nodes h = λ k b z y at here among.
      let books = h.have_books in
      let below : k < length old = subst (λ (m : ℕ). k < m) books.shelves_stay (element_within new k b at) in
      let a = element old k below in
      let x = element n.nodes.items k (subst (λ (m : ℕ). k < m) (sym books.count) below) in
      lent_of (s.lent b y) (is_among blocks y) (s.lent a.0 y) ((books.each k a.0 b x.0 a.1 at x.1).has_lent.lent y) (among_front blocks (length z.books.items) y among)
    where
      lent_of : (p q r : Bool) → p ≡ (q || r) → q ≡ true → p ≡ true
      lent_of p true r e m = e
      lent_of p false r e m = cc

  -- The shelves of opened nodes lend their blocks, and their books are of the blocks at their places.
  pub opened_close : (blocks : List BlockId) (old new : List S) (n : Nodes D I O) → IsOpened s d blocks old new n → CanClose s new n
  opened_close blocks old new n h = record {
    lend = λ nodes. subst (λ (xs : List BlockId). TheyLend s xs nodes new) (sym h.blocks_are) (opened_lend blocks old new n nodes h);
    fit = subst (λ (xs : List BlockId). NodesFit xs n.nodes.items) (sym h.blocks_are) (λ node place block x at is.
        ap (λ (r : FullReplica). r.known.block) (book_replica s d blocks old new n.nodes.items h.have_books node place block x at is));
  }

-- So are those of nodes that show a world.
pub shown_fit : {F I O : Type 0} (i : link_in.Ghosts I) (o : link_out.Ghosts O) (w : World) (net : Net) (n : Nodes F I O) → Filled w → NodesShow i o w net n → NodesFit n.blocks.items n.nodes.items
shown_fit i o w net n filled shows = λ node place block x at is.
    ap (λ (r : FullReplica). r.known.block) (shows.books node place block x at is) ∙ (filled.replicas node block.0).block_is
