-- The books that a restart makes are those of the world after it.
use Rattle.std.proofs.Common.{◌≡◌, ◌<◌, ℕ, Bool, true, false, List, [], length, Option, Some, None, IsSome, refl, sym, ap, subst, ◌∙◌}
use Rattle.std.specs.Prelude.{◌||◌, slice_get, option_map, option_and_then, is_some, if◌then◌else◌, Result, Ok, Err, OnOk, OnErr}
use Rattle.hd_base.specs.declared.files.Files as files
use Rattle.hd_base.specs.declared.links.LinkIn as link_in
use Rattle.hd_base.specs.declared.links.LinkOut as link_out
use Rattle.hd_base.specs.declared.numbers.BlockId.{BlockId}
use Rattle.hd_base.specs.declared.numbers.NodeId.{NodeId}
use Rattle.hd_base.specs.declared.roads.Roads as roads
use Rattle.hd_base.specs.declared.shelves.Shelf as shelves
use Rattle.replica_core.specs.declared.info.ReplicaInfo.{ReplicaInfo}
use Rattle.node_restarts.specs.ReplicaFiles.Books.{replica_of}
use Rattle.node_restarts.specs.ReplicaFiles.BookState.{BookState}
use Rattle.node_restarts.specs.ReplicaFiles.Breaks.{HoldsWhole}
use Rattle.replica_model.specs.Found.{Found, found_whole}
use Rattle.replica_model.specs.Rows.{FullReplica}
use Rattle.road_traffic.specs.Showing.{Net}
use Rattle.world.specs.Parts.{Break}
use Rattle.world.specs.Restarts.{is_whole_as, may_find, replica_found, restarted}
use Rattle.world.specs.Worlds.{World}
use Rattle.node_restarts.specs.PlayNodes.NodeBooks.{NodeBooks}
use Rattle.node_restarts.specs.PlayNodes.Nodes.{Nodes}
use Rattle.node_restarts.specs.PlayNodes.Showing.{NodesStand}
use Rattle.node_restarts.proofs.PlayNodes.Tables.{element}
use Rattle.node_restarts.specs.NodeOpening.Closing.{block_of, AreLentOut, AreOf}
use Rattle.node_restarts.proofs.NodeOpening.CloseLemmas.{block_at, length_blocks}
use Rattle.node_restarts.specs.Restarting.{TellAll, HasNoPair, IsRestarted, StandsAgain}
use Rattle.node_restarts.specs.Seeking.{is_sought}
use Rattle.node_starts.specs.Books.{AreBooksOf, HasAllBooks, NodeTells, BooksReturn, StartsOver}
use Rattle.world_breaks.specs.Breaks.{IsWholeAgain, AllWholeAgain}
use Rattle.node_starts.specs.Starting.{Listens, StartShows}
use Rattle.node_starts.specs.declared.faults.StartFault.{StartFault}
use Rattle.node_starts.proofs.StartLemmas.{AreFound, HasAsMany, same_some, within, is_some_within, sizes_kept, start_left}

true_false : true ≡ false → ⊥
true_false e = cc

-- THE WORLD'S RESTART

else_whole : (o : Option Found) → (if is_whole_as o None then None else o) ≡ o
else_whole None = refl
else_whole (Some f) = refl

unbroken_whole : (b : ℕ) (r : FullReplica) → restarted b r None None ≡ replica_found b (found_whole r.known.info r.bytes)
unfolding restarted may_find
unbroken_whole b r = ap (replica_found b) (else_whole (found_whole r.known.info r.bytes))

-- ONE BOOK

-- the replica is there again, with all that it held
abbrev all_found : {D : Type 0} → BookState D → BookState D → Type 0
all_found x y = replica_of y ≡ replica_found (block_of x).0 (found_whole (replica_of x).known.info (replica_of x).bytes)

module _ {D : Type 0} (d : files.Ghosts D) (x y : BookState D) (whole : (replica_of x).known.is_broken ≡ false) where
  seeks : (o : Option ReplicaInfo) → (replica_of x).known.info ≡ o → is_some o ≡ is_sought x
  seeks o e = sym (ap (λ (t : Bool). is_some (replica_of x).known.info || t) whole ∙ (or_none (is_some (replica_of x).known.info) ∙ ap (λ (q : Option ReplicaInfo). is_some q) e))
    where
      or_none : (t : Bool) → (t || false) ≡ t
      or_none true = refl
      or_none false = refl

  no_pair : (o : Option ReplicaInfo) → is_some o ≡ true → HasNoPair d x o
  no_pair None e = absurd (true_false (sym e))
  no_pair (Some h) e = tt

  absent : (o : Option ReplicaInfo) (bytes : List ℕ) → is_some o ≡ false → found_whole o bytes ≡ None
  absent None bytes e = refl
  absent (Some h) bytes e = absurd (true_false e)

  -- Of a book that isn't broken all is found.
  pub again_whole : StandsAgain d (is_sought x) x y → all_found x y
  again_whole h = by (is_sought x) refl h
    where
      by : (t : Bool) → is_sought x ≡ t → StandsAgain d t x y → all_found x y
      by true so r = r.is ∙ ap (replica_found (block_of x).0) (r.whole (record { whole = whole; no_pair = no_pair (replica_of x).known.info (seeks (replica_of x).known.info refl ∙ so) }))
      by false so r = r ∙ sym (ap (replica_found (block_of x).0) (absent (replica_of x).known.info (replica_of x).bytes (seeks (replica_of x).known.info refl ∙ so)))

module _ {D : Type 0} (d : files.Ghosts D) (x y : BookState D) where
  -- So it is of a book that broke, and whose files hold its replica.
  again_spared : IsSome (replica_of x).known.info → HoldsWhole (d.files x.drawer) (replica_of x) → StandsAgain d (is_sought x) x y → all_found x y
  again_spared there holds h =
      let so : is_sought x ≡ true = ap (λ (t : Bool). t || (replica_of x).known.is_broken) there in
      let r : IsRestarted d x y = subst (λ (t : Bool). StandsAgain d t x y) so h in
      r.is ∙ ap (replica_found (block_of x).0) (r.spared there holds)

  -- What is found of a book's replica is what the world's restart makes of it.
  again_shown : (b : ℕ) (r : FullReplica) (broke : Option Break) → (block_of x).0 ≡ b → replica_of x ≡ r → IsWholeAgain b r broke → HoldsWhole (d.files x.drawer) (replica_of x) → StandsAgain d (is_sought x) x y
      → replica_of y ≡ restarted b r broke None
  again_shown b r broke of shown whole holds h = by broke whole
    where
      found : all_found x y → replica_of y ≡ replica_found b (found_whole r.known.info r.bytes)
      found e =
          e ∙ (ap (λ (n : ℕ). replica_found n (found_whole (replica_of x).known.info (replica_of x).bytes)) of
          ∙ ap (λ (q : FullReplica). replica_found b (found_whole q.known.info q.bytes)) shown)

      by : (o : Option Break) → IsWholeAgain b r o → replica_of y ≡ restarted b r o None
      by None u = found (again_whole d x y (ap (λ (q : FullReplica). q.known.is_broken) shown ∙ u.whole) h) ∙ sym (unbroken_whole b r)
      by (Some z) u = found (again_spared (subst (λ (q : FullReplica). IsSome q.known.info) (sym shown) u.there) holds h) ∙ sym u.found

-- ALL BOOKS

books_in : {F : Type 0} (o : Option (NodeBooks F)) (books : List (BookState F)) (place : ℕ) → option_map (λ (x : NodeBooks F). x.books.items) o ≡ Some books → option_and_then (λ (x : NodeBooks F). slice_get x.books.items place) o ≡ slice_get books place
books_in None books place e = cc
books_in {F} (Some x) books place e = ap (λ (l : List (BookState F)). slice_get l place) (same_some x.books.items books e)

same_books : {F I O : Type 0} (node : NodeId) (n : Nodes F I O) (books others : List (BookState F)) → AreBooksOf node books n → AreBooksOf node others n → books ≡ others
same_books node n books others e f = same_some books others (sym e ∙ f)

node_there : {F I O : Type 0} (node : NodeId) (n : Nodes F I O) (books : List (BookState F)) → AreBooksOf node books n → node.0 < length n.nodes.items
node_there {F} node n books e = by (slice_get n.nodes.items node.0) refl e
  where
    by : (o : Option (NodeBooks F)) → slice_get n.nodes.items node.0 ≡ o → option_map (λ (x : NodeBooks F). x.books.items) o ≡ Some books → node.0 < length n.nodes.items
    by None at h = cc
    by (Some x) at h = within n.nodes.items node.0 x at

pub has_node : {F I O : Type 0} (node : NodeId) (n : Nodes F I O) → HasAllBooks node n → node.0 < length n.nodes.items
has_node node n h = node_there node n h.books h.are

module _ {S D I O : Type 0} (s : shelves.Ghosts S D) (d : files.Ghosts D) (node : NodeId) (shelf shelf' : S) (old new : Nodes D I O) (all : HasAllBooks node old) (back : BooksReturn s d node shelf shelf' old new) where
  had_is : back.had ≡ all.books
  had_is = same_books node old back.had all.books back.had_are all.are

  made_count : length back.made ≡ length old.blocks.items
  made_count = sym (length_blocks back.made) ∙ ap length back.restarted.blocks_are

  as_many : HasAsMany node back.made old
  as_many x at = ap length (same_some x.books.items all.books (sym (ap (option_map (λ (z : NodeBooks D). z.books.items)) at) ∙ all.are)) ∙ (all.count ∙ sym made_count)

  of_blocks : AreOf old.blocks.items back.made
  of_blocks place block y at at' =
      same_some (block_of y) block (sym (block_at back.made place y at') ∙ (ap (λ (bs : List BlockId). slice_get bs place) back.restarted.blocks_are ∙ at))

  told_again : NodeTells s d node shelf old → NodeTells s d node shelf' new
  told_again tells books are =
      subst (λ (xs : List (BookState D)). TellAll s d shelf' xs) (same_books node new back.made books back.replaced.here are)
      (back.restarted.told (tells back.had back.had_are))

  pub starts_over : StartsOver s d node shelf shelf' old new
  starts_over = record {
    lent = subst (λ (bs : List BlockId). AreLentOut s shelf' bs) (sym back.replaced.others.blocks) back.restarted.lent;
    whole = record {
      books = back.made;
      are = back.replaced.here;
      count = made_count ∙ sym (ap length back.replaced.others.blocks);
      of_blocks = subst (λ (bs : List BlockId). AreOf bs back.made) (sym back.replaced.others.blocks) of_blocks;
    };
    sizes = sizes_kept node back.made old new back.replaced as_many (has_node node old all);
    told = told_again;
  }

  module _ {R : Type 0} (r : roads.Ghosts R I O) (i : link_in.Ghosts I) (o : link_out.Ghosts O) (w : World) (net : Net) (road : R) (stands : NodesStand r i o w net road old) (again : AllWholeAgain w) (tells : NodeTells s d node shelf old) where
    each_found : (place : ℕ) (block : BlockId) (book : BookState D) → slice_get old.blocks.items place ≡ Some block → slice_get back.made place ≡ Some book
        → replica_of book ≡ restarted block.0 (w.replicas node.0 block.0) (w.breaks node.0 block.0) None
    each_found place block book at at' =
        let p = element all.books place (subst (λ (n : ℕ). place < n) (sym all.count) (within old.blocks.items place block at)) in
        let x = p.0 in
        let had : slice_get back.had place ≡ Some x = ap (λ (l : List (BookState D)). slice_get l place) had_is ∙ p.1 in
        let of : block_of x ≡ block = all.of_blocks place block x at p.1 in
        let shown : replica_of x ≡ w.replicas node.0 block.0 =
        stands.nodes_are.books node.0 place block x at (books_in (slice_get old.nodes.items node.0) all.books place all.are ∙ p.1) in
        again_shown d x book block.0 (w.replicas node.0 block.0) (w.breaks node.0 block.0) (ap (λ (q : BlockId). q.0) of) shown (again node.0 block.0) (back.whole place x had)
        (back.restarted.each (tells back.had back.had_are) place x book had at')

    pub are_found : AreFound w node [] old back.made
    are_found = record {
      each = each_found;
      has_each = λ place block at. is_some_within back.made place (subst (λ (n : ℕ). place < n) (sym made_count) (within old.blocks.items place block at));
    }

  -- Where the roads listen, all shows the world after the start.
  pub start_shows : {R : Type 0} (r : roads.Ghosts R I O) (i : link_in.Ghosts I) (o : link_out.Ghosts O) (road road' : R) (result : Result (Unit {0}) StartFault) → Listens r node.0 road road' result
      → OnOk result (StartShows s d r i o node shelf old new road road')
  start_shows r i o road road' (Ok u) listens = λ w net stands can again tells.
      start_left r i o node back.made [] w net old new road road' stands can (are_found r i o w net road stands again tells) (listens net stands.roads_are.shows) back.replaced
  start_shows r i o road road' (Err why) listens = tt

-- RESULTS

pub on_ok : {T E : Type 0} (result : Result T E) (X : Type 0) → X → OnOk result X
on_ok (Ok x) X p = p
on_ok (Err e) X p = tt

pub on_err : {T E : Type 0} (result : Result T E) (X : Type 0) → X → OnErr result X
on_err (Ok x) X p = tt
on_err (Err e) X p = p
