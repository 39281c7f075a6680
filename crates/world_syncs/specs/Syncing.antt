-- What an hsync's answer says of the members that it names.
use Rattle.std.specs.Prelude.{ℕ, ◌≡◌, ◌≤◌, true, List, [], ◌∷◌, ◌++◌}
use Rattle.hd_base.specs.declared.numbers.ConnId.{ConnId}
use Rattle.hd_base.specs.declared.numbers.NodeId.{NodeId}
use Rattle.packet_codec.specs.declared.packets.Packet.{Packet}
use Rattle.replica_core.specs.declared.events.Answer.TheVariants as answer
use Rattle.replica_core.specs.Views.{written_in}
use Rattle.replica_model.specs.declared.events.ReplicaEvent.{ReplicaEvent}
use Rattle.replica_model.specs.declared.events.ReplicaEvent.TheVariants as replica_event
use Rattle.replica_model.specs.Rows.{FullReplica, row, row_answer}
use Rattle.world.specs.Parts.{Answered, by_hsync}
use Rattle.world.specs.Worlds.{World, start}
use Rattle.world.specs.Events.{run}
use Rattle.world.specs.Safe.{Has, Steady}
use Rattle.world.specs.declared.events.Event.{Event}
use Rattle.world_syncs.specs.Histories.{Histories, no_events, history_in, replayed}

-- After each of these events the replica has at least so many bytes.
abbrev pub LeaveBytes : ℕ → FullReplica → List ReplicaEvent → Type 0
LeaveBytes n r [] = Unit {0}
LeaveBytes n r (e ∷ es) = (n ≤ written_in (row r e).known) × LeaveBytes n (row r e) es

-- Among these events the replica took a packet with sync, and since then it has at least so many bytes.
pub record SyncedSince (r : FullReplica) (es : List ReplicaEvent) (n : ℕ) : Type 0 where
  pub before : List ReplicaEvent
  pub conn : ConnId
  pub packet : Packet
  pub after : List ReplicaEvent
  pub are : es ≡ before ++ replica_event.Packet conn packet ∷ after
  pub asks : packet.sync ≡ true
  pub takes : row_answer (replayed r before) (replica_event.Packet conn packet) ≡ answer.Done
  pub leave : LeaveBytes n (replayed r before) (replica_event.Packet conn packet ∷ after)

-- A node's replica of a block is what the events of this life made of it; among them it took a packet with sync, since
-- when it has at least so many bytes.
pub record TookSync (h : Histories) (w : World) (node block n : ℕ) : Type 0 where
  pub replica : replayed (h node block).first (h node block).events ≡ w.replicas node block
  pub synced : SyncedSince (h node block).first (h node block).events n

-- So it is of each member that an answer to an hsync names, where it is steady since the answer's stamp.
abbrev pub HsyncsWereTaken : Histories → World → Type 0
HsyncsWereTaken h w = (a : Answered) (m : NodeId) → Has w.answered a → a.command ≡ by_hsync → Has a.members m →
    Steady w a.block a.stamp m.0 →
    TookSync h w m.0 a.block a.length

-- It is so after every list of events.
abbrev pub AllTaken : ℕ → List Event → Type 0
AllTaken nodes events = HsyncsWereTaken (history_in no_events (start nodes) events) (run (start nodes) events)
