-- What the events of the lower ends make of reads, nodes and roads that show a world.
use Rattle.std.specs.Prelude.{◌≡◌, ℕ, true, Some, IsSome, Result, Ok, Err}
use Rattle.hd_base.specs.declared.files.Files as files
use Rattle.hd_base.specs.declared.links.LinkIn as link_in
use Rattle.hd_base.specs.declared.links.LinkOut as link_out
use Rattle.hd_base.specs.declared.numbers.ConnId.{ConnId}
use Rattle.hd_base.specs.declared.roads.Roads as roads
use Rattle.play_primaries.specs.ReplicaFiles.BookState.{BookState}
use Rattle.road_traffic.specs.Showing.{Net}
use Rattle.world.specs.declared.events.Event.{Event}
use Rattle.world.specs.declared.events.Event.TheVariants as event
use Rattle.world.specs.Events.{happens}
use Rattle.world.specs.Nodes.{node_of}
use Rattle.world.specs.Worlds.{World}
use Rattle.play_nodes.specs.WorldLaws.Placing.{Placed}
use Rattle.play_nodes.specs.WorldOrders.Orders.{Ordered, purpose_of, reading}
use Rattle.play_nodes.specs.PlayModel.Due.TheVariants as due
use Rattle.play_nodes.specs.PlayModel.Dues.{Queues, is_due}
use Rattle.play_nodes.specs.declared.nodes.Nodes.{Nodes}
use Rattle.play_nodes.specs.Places.{book_at}
use Rattle.play_servers.specs.Events as servers
use Rattle.play_servers.specs.Showing.{AsksFor}
use Rattle.play_reads.specs.declared.faults.ReadsFault.{ReadsFault}
use Rattle.play_reads.specs.declared.reads.Reads.{Reads}
use Rattle.play_reads.specs.Faults.{IsCaused}
use Rattle.play_reads.specs.Left.{ReadsLeft}
use Rattle.play_reads.specs.Showing.{ReadsStand}

-- What holds of each world before an event and after it, whatever happened before: messages come in order
-- (messages_come_in_order), and every index is in range (indices_are_in_range).
pub record ServesInOrder (w : World) (e : Event) : Type 0 where
  pub before : Ordered w
  pub after : Ordered (happens w e)
  pub placed : Placed w

-- How it ends: what is left shows the world after it, or a fault has its cause. Where a call on files failed, which is
-- the fault of the node's files, nothing is said of what is left.
abbrev pub ServeEnds : {F R I O : Type 0} → files.Ghosts F → roads.Ghosts R I O → link_in.Ghosts I →
    link_out.Ghosts O → World → Net → Event → Nodes F I O → Nodes F I O → Reads I O → Reads I O → R → R →
    Result (Unit {0}) ReadsFault → Type 0
ServeEnds f r i o w net e n n' old new road road' (Ok u) = ReadsLeft r i o w net (happens w e) road' n' old new
ServeEnds f r i o w net e n n' old new road road' (Err why) = IsCaused f r n n' road road' why

-- The lower end of a connection that a reader dialled takes what stands next. Each request to read that was sent there
-- is for one of the play's blocks.
abbrev pub DownShows : {F R I O : Type 0} → files.Ghosts F → roads.Ghosts R I O → link_in.Ghosts I →
    link_out.Ghosts O → ConnId → Nodes F I O → Nodes F I O → Reads I O → Reads I O → R → R →
    Result (Unit {0}) ReadsFault → Type 0
DownShows f r i o conn n n' old new road road' result =
    (w : World) (net : Net) (queues : Queues) → ReadsStand r i o w net road n old →
    ServesInOrder w (event.Down conn true) → servers.DownIsLawful w conn → AsksFor n.blocks.items w conn.0 →
    is_due w queues (due.Down conn) ≡ true → purpose_of (w.dialled conn.0).upper ≡ reading
    → ServeEnds f r i o w net (event.Down conn true) n n' old new road road' result

-- The files of the books of a node are told.
abbrev pub FilesTold : {F I O : Type 0} → files.Ghosts F → Nodes F I O → ℕ → Type 0
FilesTold {F} f n node = (place : ℕ) (book : BookState F) → book_at n.nodes.items node place ≡ Some book
    → IsSome (f.files book.drawer)

-- It sends the next packet of the read that it serves, with the book of a node whose files are told.
abbrev pub ReadyShows : {F R I O : Type 0} → files.Ghosts F → roads.Ghosts R I O → link_in.Ghosts I →
    link_out.Ghosts O → ConnId → Nodes F I O → Nodes F I O → Reads I O → Reads I O → R → R →
    Result (Unit {0}) ReadsFault → Type 0
ReadyShows f r i o conn n n' old new road road' result =
    (w : World) (net : Net) (queues : Queues) → ReadsStand r i o w net road n old →
    ServesInOrder w (event.Ready conn) → FilesTold f n (node_of w conn.0) → is_due w queues (due.Ready conn) ≡ true →
    purpose_of (w.dialled conn.0).upper ≡ reading
    → ServeEnds f r i o w net (event.Ready conn) n n' old new road road' result
