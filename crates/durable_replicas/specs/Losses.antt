-- What a scan finds after a loss of power.
use Rattle.std.specs.Prelude.{ℕ, ◌≡◌, ◌≤◌, true, List, ◌++◌, length, take, Option}
use Rattle.hd_base.specs.FileMaps.{FileMap}
use Rattle.hd_base.specs.Calls.{Log, stopped}
use Rattle.hd_base.specs.SumRules.{Rule}
use Rattle.hd_base.specs.declared.numbers.BlockId.{BlockId}
use Rattle.hd_base.specs.declared.numbers.Stamp.{Stamp}
use Rattle.hd_base.specs.declared.states.ReplicaState.{ReplicaState}
use Rattle.file_calls.specs.Losses.{PowerLost}
use Rattle.replica_core.specs.declared.info.ReplicaInfo.{ReplicaInfo}
use Rattle.replica_model.specs.declared.events.ReplicaEvent.{ReplicaEvent}
use Rattle.replica_model.specs.Rows.{FullReplica}
use Rattle.replica_model.specs.Plans.{has_sums}
use Rattle.replica_model.specs.Found.{Found, found_as, IsFront}
use Rattle.restart_scan.specs.Pairs.{Pair, IsPair}
use Rattle.restart_scan.specs.Kept.{chunk_of, IsConsidered, Matches}
use Rattle.restart_scan.specs.Laws.{FindsBlock}
use Rattle.durable_replicas.specs.Fronts.{whole_len}
use Rattle.durable_replicas.specs.Steady.{IsSteady, IsKept, EndsSynced, later_calls}

-- A loss of power after the log's calls and those of these events, up to one that may be done in part.
pub record LosesAfter (log : Log) (r : FullReplica) (es : List ReplicaEvent) (left : FileMap) : Type 0 where
  pub k : ℕ
  pub n : ℕ
  pub lost : PowerLost log.start (log.calls ++ stopped k n (later_calls r es)) left

-- A replica is found under this rule, with at least the whole chunks among the first n of these bytes.
pub record KeepsChunks (r : Rule) (n : ℕ) (bytes : List ℕ) (found : Option Found) : Type 0 where
  pub state : ReplicaState
  pub stamp : Stamp
  pub kept : List ℕ
  pub is : found ≡ found_as state stamp r kept
  pub least : whole_len r n ≤ length kept
  pub same : take (whole_len r n) kept ≡ take (whole_len r n) bytes

-- Of a replica that isn't TEMPORARY, whose files were synced when it had these bytes, any loss of power leaves files of
-- which at least the whole chunks among the first n are found, while all events since have left it with n bytes or more.
abbrev pub LossesKeepChunks : Type 0
LossesKeepChunks = (log : Log) (r : FullReplica) (h : ReplicaInfo) (es : List ReplicaEvent) (n : ℕ) (left : FileMap)
    (found : Option Found) → IsKept r h → EndsSynced r log → n ≤ length r.bytes → IsSteady n r es →
    LosesAfter log r es left → FindsBlock r.known.block left found → KeepsChunks h.sums n r.bytes found

-- The bytes of a chunk aren't a front of what was written there.
abbrev pub IsTorn : Rule → List ℕ → List ℕ → ℕ → Type 0
IsTorn r bytes written i = IsFront (chunk_of r bytes i) (chunk_of r written i) → ⊥

-- No torn chunk of the block's files matches the sum that stands for it.
abbrev pub NoTornMatches : BlockId → FileMap → List ℕ → Type 0
NoTornMatches block left written = (p : Pair) (i : ℕ) → IsPair block left p → IsConsidered p.rule p.bytes p.stored i →
    IsTorn p.rule p.bytes written i → Matches p.rule p.bytes p.stored i → ⊥

-- A replica is found under this rule, with a front of what was written.
pub record KeepsFront (r : Rule) (written : List ℕ) (found : Option Found) : Type 0 where
  pub state : ReplicaState
  pub stamp : Stamp
  pub kept : List ℕ
  pub is : found ≡ found_as state stamp r kept
  pub front : IsFront kept written

-- The same, where no torn chunk matches its sum by chance and chunks have sums: all that is found is a front of what
-- was written, whichever bytes these are.
abbrev pub LossesKeepFronts : Type 0
LossesKeepFronts = (log : Log) (r : FullReplica) (h : ReplicaInfo) (es : List ReplicaEvent) (n : ℕ) (left : FileMap)
    (found : Option Found) (written : List ℕ) → IsKept r h → EndsSynced r log → n ≤ length r.bytes →
    IsSteady n r es → LosesAfter log r es left → has_sums h.sums.kind ≡ true →
    NoTornMatches r.known.block left written → FindsBlock r.known.block left found → KeepsFront h.sums written found
