-- A lower end and the books show the world after an event.
use Rattle.std.proofs.Common.{◌≡◌, inl, inr, ℕ, true, List, slice_get, slice_set, Some, None, refl, sym, ap, ◌∙◌, subst}
use Rattle.hd_base.specs.declared.ends.Conn.{Conn}
use Rattle.hd_base.specs.declared.links.LinkIn as link_in
use Rattle.hd_base.specs.declared.links.LinkOut as link_out
use Rattle.hd_base.specs.declared.numbers.BlockId.{BlockId}
use Rattle.serving_events.specs.ReadCore.Servings.{ServingState}
use Rattle.recovery_events.specs.ReplicaFiles.BookState.{BookState}
use Rattle.recovery_events.specs.ReplicaFiles.Books.{replica_of}
use Rattle.road_traffic.specs.Showing.{Net}
use Rattle.world_requests.specs.World.Parts as parts
use Rattle.world_requests.specs.World.Parts.{Dialled, idle, serves, ended_below}
use Rattle.world_requests.specs.World.Worlds.{World}
use Rattle.world_requests.specs.World.Connections.{is_served}
use Rattle.world_requests.specs.World.Nodes.{node_of, replica_at}
use Rattle.world_standings.specs.WorldNets.Nets.{IsEndOf}
use Rattle.recovery_events.specs.WorldOrders.Orders.{purpose_of, reading}
use Rattle.recovery_events.specs.MemberEvents.Showing.{OthersStay}
use Rattle.serving_events.specs.declared.steps.ServedRead.{ServedRead}
use Rattle.serving_events.specs.Showing.{ReadShows}
use Rattle.play_servers.specs.declared.servers.ReadEnd.{ReadEnd}
use Rattle.play_servers.specs.declared.servers.ReadEnd.TheVariants as read_end
use Rattle.play_servers.specs.Showing.{EndShows, ServerShows, BooksShow}
use Rattle.play_servers.specs.Events.{RestStays}
use Rattle.play_servers.proofs.TableLaws.{SetOr, set_or, set_some, same_some}

-- THE WORLD

pub node_as : (w v : World) (c b : ℕ) → RestStays w v c b → node_of v c ≡ node_of w c
node_as w v c b rest = ap (λ (x : Dialled). x.to.node) (rest.dialled c)

pub served_as : (w v : World) (c b : ℕ) → RestStays w v c b → is_served v c ≡ is_served w c
served_as w v c b rest = rw (rest.conns, rest.dialled c, rest.running (w.dialled c).to.node, rest.lives (w.dialled c).to.node) refl

-- BOOKS

module _ {F : Type 0} where
  set_each : (w v : World) (c b place k : ℕ) (blocks : List BlockId) (books : List (BookState F)) (at block : BlockId) (book' other : BookState F) → BooksShow w c blocks books → RestStays w v c b → slice_get blocks place ≡ Some at → at.0 ≡ b → replica_of book' ≡ replica_at v c b
      → slice_get blocks k ≡ Some block → SetOr books place book' k other → replica_of other ≡ replica_at v c block.0
  set_each w v c b place k blocks books at block book' other h rest at_place of_block shows at_k (inl same) =
      let blocks_same : at ≡ block = same_some at block (sym at_place ∙ (ap (slice_get blocks) (sym same.0) ∙ at_k)) in
      ap replica_of same.1 ∙ (shows ∙ ap (replica_at v c) (sym of_block ∙ ap (λ (x : BlockId). x.0) blocks_same))
  set_each w v c b place k blocks books at block book' other h rest at_place of_block shows at_k (inr there) =
      h.each k block other at_k there.1 ∙
      (sym (rest.replicas (node_of w c) block.0 (λ _ same. there.0 (h.distinct k place block at at_k at_place (same ∙ sym of_block)))) ∙
      ap (λ (n : ℕ). v.replicas n block.0) (sym (node_as w v c b rest)))

  -- One book was set.
  pub books_set : (w v : World) (c b place : ℕ) (blocks : List BlockId) (books : List (BookState F)) (at : BlockId) (book' : BookState F) → BooksShow w c blocks books → RestStays w v c b → slice_get blocks place ≡ Some at → at.0 ≡ b
      → replica_of book' ≡ replica_at v c b → BooksShow v c blocks (slice_set books place book')
  books_set w v c b place blocks books at book' h rest at_place of_block shows = record {
    each = λ k block other at_k found. set_each w v c b place k blocks books at block book' other h rest at_place of_block shows at_k (set_or books place book' k other found);
    all = λ k block at_k. set_some books place book' k (h.all k block at_k);
    distinct = h.distinct;
  }

  -- None was, and all replicas stay.
  pub books_stay : (w v : World) (c b : ℕ) (blocks : List BlockId) (books : List (BookState F)) → BooksShow w c blocks books → RestStays w v c b → ((n m : ℕ) → v.replicas n m ≡ w.replicas n m) → BooksShow v c blocks books
  books_stay w v c b blocks books h rest same = record {
    each = λ k block book at_k found. h.each k block book at_k found ∙ (sym (same (node_of w c) block.0) ∙ ap (λ (n : ℕ). v.replicas n block.0) (sym (node_as w v c b rest)));
    all = h.all;
    distinct = h.distinct;
  }

-- THE LOWER END

module _ {I O : Type 0} (i : link_in.Ghosts I) (o : link_out.Ghosts O) where
  -- An end that has taken nothing yet.
  pub record IsIdle (w : World) (net : Net) (c : ℕ) (e : Conn I O) : Type 0 where
    pub lower : w.lowers c ≡ idle
    pub served : is_served w c ≡ true
    pub end_is : IsEndOf i o w net c true e

  idle_so : (w : World) (net : Net) (c : ℕ) (blocks : List BlockId) (e : Conn I O) (l : parts.Lower) → w.lowers c ≡ l → EndShows i o w net c blocks l (read_end.Idle e) → IsIdle w net c e
  idle_so w net c blocks e idle is h = record { lower = is; served = h.0; end_is = h.1 }
  idle_so w net c blocks e l is h = absurd h

  pub is_idle : (w : World) (net : Net) (c : ℕ) (blocks : List BlockId) (e : Conn I O) → ServerShows i o w net c blocks (read_end.Idle e) → IsIdle w net c e
  is_idle w net c blocks e h = idle_so w net c blocks e (w.lowers c) refl h.end_is

  -- A read that is served.
  pub record IsServing (w : World) (net : Net) (c : ℕ) (blocks : List BlockId) (read : ServedRead I O) (place : ℕ) : Type 0 where
    pub b : ℕ
    pub s : ServingState
    pub lower : w.lowers c ≡ serves b s
    pub served : is_served w c ≡ true
    pub shows : ReadShows i o w net c b s read
    pub block : BlockId
    pub at_place : slice_get blocks place ≡ Some block
    pub of_block : block.0 ≡ b

  serving_so : (w : World) (net : Net) (c : ℕ) (blocks : List BlockId) (read : ServedRead I O) (place : ℕ) (l : parts.Lower) → w.lowers c ≡ l → EndShows i o w net c blocks l (read_end.Serving read place) → IsServing w net c blocks read place
  serving_so w net c blocks read place (serves b s) is h =
      record { b = b; s = s; lower = is; served = h.0; shows = h.1.shows; block = h.1.block; at_place = h.1.at_place; of_block = h.1.of_block }
  serving_so w net c blocks read place l is h = absurd h

  pub is_serving : (w : World) (net : Net) (c : ℕ) (blocks : List BlockId) (read : ServedRead I O) (place : ℕ) → ServerShows i o w net c blocks (read_end.Serving read place) → IsServing w net c blocks read place
  is_serving w net c blocks read place h = serving_so w net c blocks read place (w.lowers c) refl h.end_is

  dialled_as : (w v : World) (net made : Net) (c b : ℕ) (blocks : List BlockId) (e : ReadEnd I O) → ServerShows i o w net c blocks e → RestStays w v c b → purpose_of (v.dialled c).upper ≡ reading
  dialled_as w v net made c b blocks e h rest = ap (λ (x : Dialled). purpose_of x.upper) (rest.dialled c) ∙ h.dialled

  -- It has ended in the event.
  pub server_ended : (w v : World) (net made : Net) (c b : ℕ) (blocks : List BlockId) (e : ReadEnd I O) → ServerShows i o w net c blocks e → RestStays w v c b → v.lowers c ≡ ended_below → ServerShows i o v made c blocks read_end.Ended
  server_ended w v net made c b blocks e h rest lower = record {
    dialled = dialled_as w v net made c b blocks e h rest;
    end_is = subst (λ (l : parts.Lower). EndShows i o v made c blocks l read_end.Ended) (sym lower) tt;
  }

  -- It serves a read behind it.
  pub server_serves : (w v : World) (net made : Net) (c b place : ℕ) (blocks : List BlockId) (e : ReadEnd I O) (s : ServingState) (read : ServedRead I O) (at : BlockId) → ServerShows i o w net c blocks e → RestStays w v c b → is_served w c ≡ true → v.lowers c ≡ serves b s
      → ReadShows i o v made c b s read → slice_get blocks place ≡ Some at → at.0 ≡ b → ServerShows i o v made c blocks (read_end.Serving read place)
  server_serves w v net made c b place blocks e s read at h rest served lower shows at_place of_block = record {
    dialled = dialled_as w v net made c b blocks e h rest;
    end_is = subst (λ (l : parts.Lower). EndShows i o v made c blocks l (read_end.Serving read place)) (sym lower)
        (served_as w v c b rest ∙ served, record { shows = shows; block = at; at_place = at_place; of_block = of_block });
  }

  -- Ends that stay in two steps.
  pub others_join : (w w1 v : World) (net n1 made : Net) (c : ℕ) → OthersStay i o w net w1 n1 c None → OthersStay i o w1 n1 v made c None → OthersStay i o w net v made c None
  others_join w w1 v net n1 made c first then = λ d lower e none is. then d lower e none (first d lower e none is)
