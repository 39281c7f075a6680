-- Laws of replicas and their files.
use Rattle.std.specs.Prelude.{◌≡◌}
use Rattle.block_files.specs.BlockCalls.{AreAble, all_placed}
use Rattle.replica_model.specs.declared.events.ReplicaEvent.{ReplicaEvent}
use Rattle.replica_model.specs.Rows.{FullReplica, IsFull, IsWithBytes, row}
use Rattle.replica_model.specs.Plans.{plan, placement_of}

-- Every event leaves a replica with just the bytes that it has written.
abbrev pub RowsKeepBytes : Type 0
RowsKeepBytes = (r : FullReplica) (e : ReplicaEvent) → IsFull r → IsWithBytes e → IsFull (row r e)

-- The calls of an event find the replica's files where they lie.
abbrev pub PlansFindFiles : Type 0
PlansFindFiles = (r : FullReplica) (e : ReplicaEvent) → IsFull r → IsWithBytes e → AreAble (placement_of r) (plan r e)

-- They make of the replica's files those of the replica after the event.
abbrev pub PlansFollowRows : Type 0
PlansFollowRows = (r : FullReplica) (e : ReplicaEvent) → IsFull r → IsWithBytes e →
    all_placed (plan r e) (placement_of r) ≡ placement_of (row r e)
