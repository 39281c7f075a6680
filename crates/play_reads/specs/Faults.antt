-- Why an event of the reads isn't done.
use Rattle.std.specs.Prelude.{◌≡◌, ℕ, true, Some, None}
use Rattle.hd_base.specs.Faults.{FaultsIncreased}
use Rattle.hd_base.specs.declared.files.Files as files
use Rattle.hd_base.specs.declared.numbers.NodeId.{NodeId}
use Rattle.hd_base.specs.declared.roads.Roads as roads
use Rattle.play_primaries.specs.ReplicaFiles.BookState.{BookState}
use Rattle.play_primaries.specs.ReaderEvents.ReaderFault.{ReaderFault}
use Rattle.play_primaries.specs.ReaderEvents.ReaderFault.TheVariants as reader_fault
use Rattle.play_servers.specs.ServingEvents.ServeFault.{ServeFault}
use Rattle.play_servers.specs.ServingEvents.ServeFault.TheVariants as serve_fault
use Rattle.play_nodes.specs.declared.nodes.Nodes.{Nodes}
use Rattle.play_nodes.specs.Events.{DrawerFailed}
use Rattle.play_nodes.specs.Places.{book_at}
use Rattle.play_reads.specs.declared.faults.ReadsFault.{ReadsFault}
use Rattle.play_reads.specs.declared.faults.ReadsFault.TheVariants as fault

-- the fault of a reader
abbrev pub of_reader : ReaderFault → ReadsFault
of_reader reader_fault.LinkFailed = fault.LinkFailed
of_reader reader_fault.RoadsFailed = fault.RoadsFailed
of_reader reader_fault.Memory = fault.Memory

-- the fault of a lower end at this node
abbrev pub of_server : NodeId → ServeFault → ReadsFault
of_server node serve_fault.LinkFailed = fault.LinkFailed
of_server node serve_fault.RoadsFailed = fault.RoadsFailed
of_server node serve_fault.BytesMissing = fault.BytesMissing node
of_server node serve_fault.Memory = fault.Memory

-- The files of a book of the node aren't told.
pub record FilesUntold {F I O : Type 0} (f : files.Ghosts F) (n : Nodes F I O) (node : NodeId) : Type 0 where
  pub place : ℕ
  pub book : BookState F
  pub at_book : book_at n.nodes.items node.0 place ≡ Some book
  pub untold : f.files book.drawer ≡ None

-- Each fault has its cause.
abbrev pub IsCaused : {F R I O : Type 0} → files.Ghosts F → roads.Ghosts R I O → Nodes F I O → Nodes F I O → R → R →
    ReadsFault → Type 0
IsCaused f r old new road road' fault.LinkFailed = (c : ℕ) × (r.risen road' c ≡ true)
IsCaused f r old new road road' fault.RoadsFailed = FaultsIncreased (r.faults road) (r.faults road')
IsCaused f r old new road road' (fault.FilesFailed node) = DrawerFailed f old new node
IsCaused f r old new road road' (fault.BytesMissing node) = FilesUntold f old node
IsCaused f r old new road road' fault.Memory = Unit {0}
