-- The nodes of a play show a world.
use Rattle.std.specs.Prelude.{◌≡◌, ◌<◌, ℕ, ◌&&◌, Bool, true, false, List, length, slice_get, option_map, unwrap_or, Option, Some, IsSome}
use Rattle.hd_base.specs.declared.ends.Conn.{Conn}
use Rattle.hd_base.specs.declared.numbers.BlockId.{BlockId}
use Rattle.hd_base.specs.declared.numbers.ConnId.{ConnId}
use Rattle.hd_base.specs.declared.links.LinkIn as link_in
use Rattle.hd_base.specs.declared.links.LinkOut as link_out
use Rattle.hd_base.specs.declared.roads.Roads as roads
use Rattle.member_events.specs.ReplicaFiles.BookState.{BookState}
use Rattle.member_events.specs.ReplicaFiles.Books.{replica_of}
use Rattle.member_events.specs.PipeMember.Member.{Member}
use Rattle.road_traffic.specs.Showing.{Net}
use Rattle.play_model.specs.World.Parts as parts
use Rattle.play_model.specs.World.Parts.{by_writer, by_member, by_reader, by_primary, FullMember, idle, writes}
use Rattle.play_model.specs.World.Worlds.{World}
use Rattle.play_model.specs.World.Connections.{is_served}
use Rattle.play_model.specs.World.Nodes.{node_of, block_of}
use Rattle.member_events.specs.WorldNets.Nets.{IsEndOf}
use Rattle.play_model.specs.Dues.{is_open}
use Rattle.play_model.specs.Lines.{mirror_of}
use Rattle.member_events.specs.Showing.{ShowsWorld, MemberShows}
use Rattle.play_nodes.specs.declared.connections.Connection.{Connection}
use Rattle.play_nodes.specs.declared.connections.Lower.{Lower}
use Rattle.play_nodes.specs.declared.connections.Lower.TheVariants as lower
use Rattle.play_nodes.specs.declared.connections.Upper.{Upper}
use Rattle.play_nodes.specs.declared.connections.Upper.TheVariants as upper
use Rattle.play_nodes.specs.declared.nodes.Nodes.{Nodes}
use Rattle.play_nodes.specs.Places.{book_at}

-- CONNECTIONS

-- who dialled
abbrev pub UpperShows : parts.Upper → Upper → Type 0
UpperShows (by_writer b) (upper.Writer block) = block.0 ≡ b
UpperShows (by_member d) (upper.Member conn) = conn.0 ≡ d
UpperShows (by_reader i) (upper.Reader reader) = reader ≡ i
UpperShows (by_primary i place) (upper.Primary primary at node) = (primary ≡ i) × (at ≡ place)
UpperShows other real = ⊥

-- From where: a primary dials from its node.
abbrev pub OriginShows : Option parts.Place → Upper → Type 0
OriginShows from (upper.Primary primary at node) = option_map (λ (p : parts.Place). p.node) from ≡ Some node.0
OriginShows from other = Unit {0}

-- the connection is of a pipeline: a writer or a member dialled it
abbrev pub is_pipeline : parts.Upper → Bool
is_pipeline (by_writer b) = true
is_pipeline (by_member d) = true
is_pipeline (by_reader i) = false
is_pipeline (by_primary i place) = false

-- If it was dialled, it is of a pipeline.
abbrev pub IsOfPipeline : World → ℕ → Type 0
IsOfPipeline w c = c < w.next_conn → is_pipeline (w.dialled c).upper ≡ true

-- So is each connection: no reader and no primary has dialled.
abbrev pub AllPipelines : World → Type 0
AllPipelines w = (c : ℕ) → IsOfPipeline w c

-- the lower end may still have events: its node runs, and it hasn't ended
abbrev pub has_events : World → ℕ → Bool
has_events w c = is_served w c && is_open (w.lowers c)

-- A member of which both sides act, and its book is that of its block.
pub record SeatShows {F I O : Type 0} (i : link_in.Ghosts I) (o : link_out.Ghosts O) (w : World) (net : Net) (c : ℕ)
    (n : Nodes F I O) (full : FullMember) (m : Member I O) (place : ℕ) : Type 0 where
  pub shows : MemberShows i o w net c full m
  pub block : BlockId
  pub at_place : slice_get n.blocks.items place ≡ Some block
  pub of_block : block.0 ≡ block_of full.fields

-- the lower end stands among the nodes, and isn't kept elsewhere
abbrev pub stands_here : {I O : Type 0} → Lower I O → Bool
stands_here lower.Elsewhere = false
stands_here other = true

-- A lower end that has events, or one that has none; of one that is kept elsewhere nothing is said.
abbrev pub LowerShows : {F I O : Type 0} → link_in.Ghosts I → link_out.Ghosts O → World → Net → ℕ → Nodes F I O →
    parts.Lower → Lower I O → Type 0
LowerShows i o w net c n idle (lower.Idle end) = (has_events w c ≡ true) × IsEndOf i o w net c true end
LowerShows i o w net c n (writes full) (lower.Member m place) =
    (has_events w c ≡ true) × SeatShows i o w net c n full m place
LowerShows i o w net c n l lower.Ended = has_events w c ≡ false
LowerShows i o w net c n l lower.Elsewhere = Unit {0}
LowerShows i o w net c n l other = ⊥

pub record ConnectionShows {F I O : Type 0} (i : link_in.Ghosts I) (o : link_out.Ghosts O) (w : World) (net : Net)
    (c : ℕ) (n : Nodes F I O) (x : Connection I O) : Type 0 where
  pub upper_is : UpperShows (w.dialled c).upper x.upper
  pub origin : OriginShows (w.dialled c).from x.upper
  pub node : x.node.0 ≡ node_of w c
  pub mirror : option_map (λ (d : ConnId). d.0) x.mirror ≡ mirror_of (w.lowers c)
  pub here : stands_here x.lower ≡ is_pipeline (w.dialled c).upper
  pub lower_is : LowerShows i o w net c n (w.lowers c) x.lower

-- NODES

-- Each book is that of its block's replica at its node.
abbrev pub BooksShow : {F I O : Type 0} → World → Nodes F I O → Type 0
BooksShow {F} w n = (node place : ℕ) (block : BlockId) (book : BookState F) →
    slice_get n.blocks.items place ≡ Some block → book_at n.nodes.items node place ≡ Some book
    → replica_of book ≡ w.replicas node block.0

-- No block stands at two places.
abbrev pub IsDistinct : {F I O : Type 0} → Nodes F I O → Type 0
IsDistinct n = (j k : ℕ) (a b : BlockId) → slice_get n.blocks.items j ≡ Some a → slice_get n.blocks.items k ≡ Some b →
    a.0 ≡ b.0
    → j ≡ k

-- Each node has a book at each place.
abbrev pub HasBooks : {F I O : Type 0} → World → Nodes F I O → Type 0
HasBooks w n = (node place : ℕ) (block : BlockId) → node < w.nodes → slice_get n.blocks.items place ≡ Some block →
    IsSome (book_at n.nodes.items node place)

-- The lower ends and the books show the world.
pub record NodesShow {F I O : Type 0} (i : link_in.Ghosts I) (o : link_out.Ghosts O) (w : World) (net : Net)
    (n : Nodes F I O) : Type 0 where
  pub count : length n.connections.items ≡ w.next_conn
  pub distinct : IsDistinct n
  pub each : (c : ℕ) (x : Connection I O) → slice_get n.connections.items c ≡ Some x → ConnectionShows i o w net c n x
  pub books : BooksShow w n
  pub has_books : HasBooks w n

-- The nodes and the roads show the world.
pub record NodesStand {F R I O : Type 0} (r : roads.Ghosts R I O) (i : link_in.Ghosts I) (o : link_out.Ghosts O)
    (w : World) (net : Net) (road : R) (n : Nodes F I O) : Type 0 where
  pub roads_are : ShowsWorld r w net road
  pub nodes_are : NodesShow i o w net n

-- They show some world.
pub record Stand {F R I O : Type 0} (r : roads.Ghosts R I O) (i : link_in.Ghosts I) (o : link_out.Ghosts O) (road : R)
    (n : Nodes F I O) : Type 0 where
  pub w : World
  pub net : Net
  pub stands : NodesStand r i o w net road n

-- WHICH NODES RUN

-- a node of which it isn't told doesn't run
abbrev pub runs_in : List Bool → ℕ → Bool
runs_in running n = unwrap_or (slice_get running n) false

-- It is told which nodes of the world run.
abbrev pub TellsRunning : World → List Bool → Type 0
TellsRunning w running = (n : ℕ) → runs_in running n ≡ w.running n

-- WHAT AN EVENT LEAVES

-- Each end that a writer has is one of the world after.
abbrev pub WritersStay : {I O : Type 0} → link_in.Ghosts I → link_out.Ghosts O → World → Net → World → Net → Type 0
WritersStay {I} {O} i o w net v made = (b d : ℕ) (e : Conn I O) → (w.dialled d).upper ≡ by_writer b →
    IsEndOf i o w net d false e
    → IsEndOf i o v made d false e

-- So is each end of a connection that is none of a pipeline.
abbrev pub ElsewhereStays : {I O : Type 0} → link_in.Ghosts I → link_out.Ghosts O → World → Net → World → Net → Type 0
ElsewhereStays {I} {O} i o w net v made = (d : ℕ) (lower : Bool) (e : Conn I O) →
    is_pipeline (w.dialled d).upper ≡ false → IsEndOf i o w net d lower e
    → IsEndOf i o v made d lower e

-- The nodes and the roads show the world after, and so do the ends of writers, and of connections that are none of a
-- pipeline. What was dialled is of a pipeline.
pub record NodesLeft {F R I O : Type 0} (r : roads.Ghosts R I O) (i : link_in.Ghosts I) (o : link_out.Ghosts O)
    (w : World) (net : Net) (v : World) (road : R) (n : Nodes F I O) : Type 0 where
  pub made : Net
  pub stands : NodesStand r i o v made road n
  pub writers : WritersStay i o w net v made
  pub elsewhere : ElsewhereStays i o w net v made
  pub pipelines : AllPipelines w → AllPipelines v
