-- Replicas that were synced, and events that leave what was.
use Rattle.std.specs.Prelude.{ℕ, ◌≡◌, ◌≤◌, false, List, [], ◌∷◌, ◌++◌, Some}
use Rattle.hd_base.specs.Calls.{Call, Log, run}
use Rattle.block_files.specs.Placements.{files_of}
use Rattle.block_files.specs.BlockCalls.{BlockCall, calls_of}
use Rattle.replica_core.specs.declared.info.ReplicaInfo.{ReplicaInfo}
use Rattle.replica_core.specs.Info.{is_temporary}
use Rattle.replica_core.specs.Views.{written_in}
use Rattle.replica_model.specs.declared.events.ReplicaEvent.{ReplicaEvent}
use Rattle.replica_model.specs.Rows.{FullReplica, IsFull, IsWithBytes, row}
use Rattle.replica_model.specs.Plans.{plan, sync_calls, placement_of}
use Rattle.restart_scan.specs.Laws.{HasNumbers}

-- the calls of some events, one after the other
abbrev pub all_plans : FullReplica → List ReplicaEvent → List BlockCall
all_plans r [] = []
all_plans r (e ∷ es) = plan r e ++ all_plans (row r e) es

-- The event brings its bytes, and the replica has at least n bytes after it.
pub record KeepsLength (n : ℕ) (r : FullReplica) (e : ReplicaEvent) : Type 0 where
  pub with_bytes : IsWithBytes e
  pub numbers : HasNumbers (row r e)
  pub enough : n ≤ written_in (row r e).known

-- Each of these events leaves the replica with at least n bytes: no recovery and no pipeline setup cuts it before them.
abbrev pub IsSteady : ℕ → FullReplica → List ReplicaEvent → Type 0
IsSteady n r [] = Unit {0}
IsSteady n r (e ∷ es) = KeepsLength n r e × IsSteady n (row r e) es

-- A replica that isn't TEMPORARY, and what is held of it.
pub record IsKept (r : FullReplica) (h : ReplicaInfo) : Type 0 where
  pub full : IsFull r
  pub numbers : HasNumbers r
  pub there : r.known.info ≡ Some h
  pub apart : is_temporary h.original ≡ false

-- the calls on the files by which a replica takes these events
abbrev pub later_calls : FullReplica → List ReplicaEvent → List Call
later_calls r es = calls_of r.known.block.0 (all_plans r es) (placement_of r)

-- those by which both are synced
abbrev pub synced_calls : FullReplica → List Call
synced_calls r = calls_of r.known.block.0 sync_calls (placement_of r)

-- The log ends with the syncs of the replica's files, and the calls before them made these as they are.
pub record EndsSynced (r : FullReplica) (log : Log) : Type 0 where
  pub before : List Call
  pub calls : log.calls ≡ before ++ synced_calls r
  pub made : run before log.start ≡ files_of r.known.block.0 (placement_of r)
