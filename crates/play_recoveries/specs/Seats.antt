-- Where the lower ends of connections stand, and how their events end.
use Rattle.std.specs.Prelude.{◌≡◌, ◌≤◌, ◌<◌, ℕ, length, slice_get, Option, Some, None, Result, Ok, Err}
use Rattle.hd_base.specs.declared.numbers.NodeId.{NodeId}
use Rattle.play_servers.specs.RecoveryEvents.RecoveryFault.{RecoveryFault}
use Rattle.play_nodes.specs.declared.connections.Connection.{Connection}
use Rattle.play_nodes.specs.declared.nodes.Nodes.{Nodes}
use Rattle.play_servers.specs.declared.servers.ServerEvent.{ServerEvent}
use Rattle.play_servers.specs.declared.servers.ServerEvent.TheVariants as server_event
use Rattle.play_recoveries.specs.declared.faults.RecoveriesFault.{RecoveriesFault}
use Rattle.play_recoveries.specs.declared.faults.RecoveriesFault.TheVariants as fault
use Rattle.play_recoveries.specs.declared.recoveries.Recoveries.{Recoveries}
use Rattle.play_recoveries.specs.declared.serving.Seat.{Seat}
use Rattle.play_recoveries.specs.Faults.{of_server}
use Rattle.play_recoveries.specs.Places.{ConnsAscend, IsServerPlace, HasServer}

-- The lower end stands there, and its node has books.
pub record IsSeated {F I O : Type 0} (n : Nodes F I O) (p : Recoveries I O) (c : ℕ) (s : Seat) : Type 0 where
  pub place : IsServerPlace p.servers.items c (Some s.place)
  pub within : s.place < length p.servers.items
  pub at : Connection I O
  pub found : slice_get n.connections.items c ≡ Some at
  pub node : s.node ≡ at.node
  pub has_books : s.node.0 < length n.nodes.items

-- None stands there, where the numbers of the connections ascend, or its node has no books.
abbrev pub IsUnseated : {F I O : Type 0} → Nodes F I O → Recoveries I O → ℕ → Type 0
IsUnseated {F} {I} {O} n p c = (at : Connection I O) → slice_get n.connections.items c ≡ Some at →
    ConnsAscend p.servers.items → HasServer p.servers.items c
    → length n.nodes.items ≤ at.node.0

abbrev pub IsSeat : {F I O : Type 0} → Nodes F I O → Recoveries I O → ℕ → Option Seat → Type 0
IsSeat n p c None = IsUnseated n p c
IsSeat n p c (Some s) = IsSeated n p c s

-- where a call on files failed it is the fault of the node's files
abbrev pub followed : NodeId → Result ServerEvent RecoveryFault → Result (Unit {0}) RecoveriesFault
followed node (Ok server_event.Done) = Ok tt
followed node (Ok server_event.Broke) = Err (fault.FilesFailed node)
followed node (Err why) = Err (of_server why)
