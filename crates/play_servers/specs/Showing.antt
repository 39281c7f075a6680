-- A node's side of a connection that a reader dialled, and the books of the node, show a world.
use Rattle.std.specs.Prelude.{◌≡◌, ℕ, true, false, List, slice_get, Some, IsSome}
use Rattle.hd_base.specs.declared.links.LinkIn as link_in
use Rattle.hd_base.specs.declared.links.LinkOut as link_out
use Rattle.hd_base.specs.declared.numbers.BlockId.{BlockId}
use Rattle.hd_base.specs.declared.roads.Roads as roads
use Rattle.op_headers.specs.declared.ops.Op.TheVariants as op
use Rattle.op_headers.specs.declared.ops.ReadOp.{ReadOp}
use Rattle.serving_events.specs.ReadCore.Servings.{ServingState}
use Rattle.recovery_events.specs.ReplicaFiles.BookState.{BookState}
use Rattle.recovery_events.specs.ReplicaFiles.Books.{replica_of}
use Rattle.road_traffic.specs.Showing.{Net}
use Rattle.world_requests.specs.World.Parts.{request, Lower, idle, serves, ended_below}
use Rattle.world_requests.specs.World.Worlds.{World}
use Rattle.world_requests.specs.World.Connections.{is_served}
use Rattle.world_requests.specs.World.Nodes.{replica_at}
use Rattle.world_standings.specs.WorldNets.Nets.{IsEndOf}
use Rattle.recovery_events.specs.WorldOrders.Orders.{purpose_of, reading}
use Rattle.world_requests.specs.Requests.{IsAmong}
use Rattle.recovery_events.specs.MemberEvents.Showing.{ShowsWorld}
use Rattle.serving_events.specs.declared.steps.ServedRead.{ServedRead}
use Rattle.serving_events.specs.Drawn.{block_of}
use Rattle.serving_events.specs.Showing.{ReadShows}
use Rattle.play_servers.specs.declared.servers.ReadEnd.{ReadEnd}
use Rattle.play_servers.specs.declared.servers.ReadEnd.TheVariants as read_end

-- THE LOWER END

-- A read that is served with the book of its block.
pub record ServingShows {I O : Type 0} (i : link_in.Ghosts I) (o : link_out.Ghosts O) (w : World) (net : Net)
    (c : ℕ) (blocks : List BlockId) (b : ℕ) (s : ServingState) (read : ServedRead I O) (place : ℕ) : Type 0 where
  pub shows : ReadShows i o w net c b s read
  pub block : BlockId
  pub at_place : slice_get blocks place ≡ Some block
  pub of_block : block.0 ≡ b

-- A lower end whose node runs in that life, or one that has no further events: it has ended, or its node has stopped.
abbrev pub EndShows : {I O : Type 0} → link_in.Ghosts I → link_out.Ghosts O → World → Net → ℕ → List BlockId →
    Lower → ReadEnd I O → Type 0
EndShows i o w net c blocks idle (read_end.Idle e) = (is_served w c ≡ true) × IsEndOf i o w net c true e
EndShows i o w net c blocks (serves b s) (read_end.Serving read place) =
    (is_served w c ≡ true) × ServingShows i o w net c blocks b s read place
EndShows i o w net c blocks idle read_end.Ended = is_served w c ≡ false
EndShows i o w net c blocks (serves b s) read_end.Ended = is_served w c ≡ false
EndShows i o w net c blocks ended_below read_end.Ended = Unit {0}
EndShows i o w net c blocks l other = ⊥

-- A reader dialled the connection, and this is its lower end.
pub record ServerShows {I O : Type 0} (i : link_in.Ghosts I) (o : link_out.Ghosts O) (w : World) (net : Net) (c : ℕ)
    (blocks : List BlockId) (e : ReadEnd I O) : Type 0 where
  pub dialled : purpose_of (w.dialled c).upper ≡ reading
  pub end_is : EndShows i o w net c blocks (w.lowers c) e

-- THE BOOKS

-- The books of the node of a connection: one for each of these blocks, of which none stands twice.
pub record BooksShow {F : Type 0} (w : World) (c : ℕ) (blocks : List BlockId) (books : List (BookState F)) : Type 0 where
  pub each : (place : ℕ) (block : BlockId) (book : BookState F) → slice_get blocks place ≡ Some block →
      slice_get books place ≡ Some book
      → replica_of book ≡ replica_at w c block.0
  pub all : (place : ℕ) (block : BlockId) → slice_get blocks place ≡ Some block → IsSome (slice_get books place)
  pub distinct : (j k : ℕ) (a b : BlockId) → slice_get blocks j ≡ Some a → slice_get blocks k ≡ Some b → a.0 ≡ b.0
      → j ≡ k

-- The roads, the lower end and the books show the world.
pub record ServerStands {F R I O : Type 0} (r : roads.Ghosts R I O) (i : link_in.Ghosts I) (o : link_out.Ghosts O)
    (w : World) (net : Net) (c : ℕ) (blocks : List BlockId) (e : ReadEnd I O) (books : List (BookState F)) (road : R)
    : Type 0 where
  pub roads_are : ShowsWorld r w net road
  pub server : ServerShows i o w net c blocks e
  pub books_are : BooksShow w c blocks books

-- Each request to read that was sent on the connection is of one of these blocks.
abbrev pub AsksFor : List BlockId → World → ℕ → Type 0
AsksFor blocks w c = (k : ℕ) (read : ReadOp) → slice_get (w.downs c) k ≡ Some (request (op.Read read))
    → IsAmong blocks (block_of read)
