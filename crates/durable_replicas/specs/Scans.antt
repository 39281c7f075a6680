-- What the scan of a whole shelf lists of a block after a loss of power.
use Rattle.std.specs.Prelude.{ℕ, ◌≡◌, ◌≤◌, true, List, length, take, Contains}
use Rattle.hd_base.specs.FileMaps.{FileMap, part_of}
use Rattle.hd_base.specs.Calls.{Log}
use Rattle.hd_base.specs.SumRules.{Rule}
use Rattle.hd_base.specs.declared.numbers.BlockId.{BlockId}
use Rattle.replica_core.specs.declared.info.ReplicaInfo.{ReplicaInfo}
use Rattle.replica_model.specs.declared.events.ReplicaEvent.{ReplicaEvent}
use Rattle.replica_model.specs.Rows.{FullReplica}
use Rattle.replica_model.specs.Plans.{has_sums}
use Rattle.replica_model.specs.Found.{IsFront}
use Rattle.replica_files.specs.Finding.{HoldsBytes}
use Rattle.restart_scan.specs.declared.found.Seen.{Seen}
use Rattle.restart_scan.specs.declared.found.Found.{Found}
use Rattle.restart_scan.specs.Shelves.{ScansShelf}
use Rattle.durable_replicas.specs.Fronts.{whole_len}
use Rattle.durable_replicas.specs.Steady.{IsSteady, IsKept, EndsSynced}
use Rattle.durable_replicas.specs.Losses.{LosesAfter, NoTornMatches}

-- The scan lists the block's replica under this rule, and the files that it leaves hold it with these bytes.
pub record ListsBytes (block : BlockId) (r : Rule) (new : FileMap) (found : Found) (kept : List ℕ) : Type 0 where
  pub seen : Seen
  pub listed : Contains found.replicas.items seen
  pub of_block : seen.block ≡ block
  pub rule_is : seen.sums ≡ r
  pub all : seen.length ≡ length kept
  pub held : HoldsBytes (part_of block.0 new) block seen.state seen.stamp r kept

-- with at least the whole chunks among the first n of these bytes
pub record ListsChunks (block : BlockId) (r : Rule) (n : ℕ) (bytes : List ℕ) (new : FileMap) (found : Found) : Type 0 where
  pub kept : List ℕ
  pub lists : ListsBytes block r new found kept
  pub least : whole_len r n ≤ length kept
  pub same : take (whole_len r n) kept ≡ take (whole_len r n) bytes

-- with a front of what was written
pub record ListsFront (block : BlockId) (r : Rule) (written : List ℕ) (new : FileMap) (found : Found) : Type 0 where
  pub kept : List ℕ
  pub lists : ListsBytes block r new found kept
  pub front : IsFront kept written

-- The same as of one block's files, of a shelf's scan, where the loss of power left these of the block.
abbrev pub ScansKeepChunks : Type 0
ScansKeepChunks = (log : Log) (r : FullReplica) (h : ReplicaInfo) (es : List ReplicaEvent) (n : ℕ) (old new : FileMap)
    (found : Found) → IsKept r h → EndsSynced r log → n ≤ length r.bytes → IsSteady n r es →
    LosesAfter log r es (part_of r.known.block.0 old) → ScansShelf old new found →
    ListsChunks r.known.block h.sums n r.bytes new found

-- the same of fronts
abbrev pub ScansKeepFronts : Type 0
ScansKeepFronts = (log : Log) (r : FullReplica) (h : ReplicaInfo) (es : List ReplicaEvent) (n : ℕ) (old new : FileMap)
    (found : Found) (written : List ℕ) → IsKept r h → EndsSynced r log → n ≤ length r.bytes → IsSteady n r es →
    LosesAfter log r es (part_of r.known.block.0 old) → has_sums h.sums.kind ≡ true →
    NoTornMatches r.known.block (part_of r.known.block.0 old) written → ScansShelf old new found →
    ListsFront r.known.block h.sums written new found
