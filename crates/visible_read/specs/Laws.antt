-- Packets that are booked and sent are those of the read at the replica.
use Rattle.std.specs.Prelude.{◌≡◌, Some, Err}
use Rattle.replica_core.specs.declared.refusals.Refusal.{Refusal}
use Rattle.replica_core.specs.Transitions.{transition}
use Rattle.read_core.specs.ReplicaModel.Rows.{FullReplica}
use Rattle.read_core.specs.ReplicaModel.ReplicaEvent.TheVariants as replica_event
use Rattle.pipe_turns.specs.ReplicaFiles.Books.{Takes}
use Rattle.read_core.specs.Servings.{ServingState, piece_event, piece_of, packet_of, sent, piece_at, early_end}

-- What is sent of a read at a replica, by whether that takes the call.
pub record FollowsAt (s : ServingState) (r : FullReplica) : Type 0 where
  pub taken : Takes r (replica_event.Other (piece_event s)) →
      piece_at s r ≡ record { serving = sent s; packet = Some (packet_of s (piece_of r s)) }
  pub refused : (e : Refusal) → transition r.known (piece_event s) ≡ Err e → piece_at s r ≡ early_end s

abbrev pub FollowsRead : Type 0
FollowsRead = (s : ServingState) (r : FullReplica) → FollowsAt s r
