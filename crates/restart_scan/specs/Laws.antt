-- Laws of scans.
use Rattle.std.specs.Prelude.{ℕ, ◌≡◌, ◌⊎◌, ◌<◌, ◌≤◌, ◌^◌, Bool, true, false, List, ◌++◌, length, take, Option, Some, None, IfSome}
use Rattle.hd_base.specs.FileMaps.{FileMap}
use Rattle.hd_base.specs.declared.numbers.BlockId.{BlockId}
use Rattle.hd_base.specs.declared.numbers.Stamp.{Stamp}
use Rattle.hd_base.specs.declared.states.ReplicaState.TheVariants as state
use Rattle.hd_base.specs.SumRules.{Rule, IsChunkSize}
use Rattle.chunk_sums.specs.Chunks.{sums}
use Rattle.meta_file.specs.declared.names.Folder.{Folder}
use Rattle.meta_file.specs.declared.names.Folder.TheVariants.{Rbw, Finalized}
use Rattle.meta_file.specs.Headers.{header_of}
use Rattle.block_files.specs.Placements.{Nowhere, Both, files_of}
use Rattle.replica_model.specs.Found.{Found, found_as, IsWaiting, MayFindNew, MayFindReceived, MayFindBetween, MayFind}
use Rattle.replica_core.specs.declared.info.ReplicaInfo.{ReplicaInfo}
use Rattle.replica_core.specs.Info.{is_temporary, is_finalized}
use Rattle.block_files.specs.BlockCalls.{all_placed, stopped}
use Rattle.replica_model.specs.Rows.{FullReplica, IsFull}
use Rattle.replica_model.specs.Plans.{placement_of, placed_info, folder_of, create_calls, packet_calls, settle_calls, sync_calls}
use Rattle.restart_scan.specs.Pairs.{Pair, IsPair}
use Rattle.restart_scan.specs.Kept.{IsKept}
use Rattle.restart_scan.specs.Blocks.{state_of}

-- What is found of a block's files, with its bytes.
pub data FindsBlock (block : BlockId) (files : FileMap) : Option Found → Type 0 where
  finds : (p : Pair) → (len : ℕ) → IsPair block files p → IsKept p.rule p.bytes p.stored len →
      FindsBlock block files (Some (record { state = state_of p; stamp = p.places.stamp; sums = p.rule; bytes = take len p.bytes }))
  finds_none : ((p : Pair) → IsPair block files p → ⊥) → FindsBlock block files None

-- The block and the stamp have 64 bits.
pub record HasNumbers (r : FullReplica) : Type 0 where
  pub block_fits : r.known.block.0 < 2 ^ 64
  pub stamp_fits : IfSome r.known.info (λ h. h.stamp.0 < 2 ^ 64)

-- Of the files that hold a replica which isn't broken, just that is found which the model says of it.
abbrev pub WholeReplicasAreFound : Type 0
WholeReplicasAreFound = (r : FullReplica) (found : Option Found) → IsFull r → HasNumbers r →
    FindsBlock r.known.block (files_of r.known.block.0 (placement_of r)) found → MayFind r None found

-- The folder is that of replicas being written, or that of finalized ones in layout -57.
abbrev pub IsPlain : Folder → Type 0
IsPlain f = (f ≡ Rbw) ⊎ (f ≡ Finalized)

-- FINALIZED with all bytes, where both files lie in finalized, and what is stored is just the sums of the bytes.
pub record IsFoundFinal (f mf : Folder) (stamp : Stamp) (r : Rule) (bytes stored : List ℕ) (found : Option Found) : Type 0
  where
    pub body : f ≡ Finalized
    pub meta : mf ≡ Finalized
    pub whole : stored ≡ sums r bytes
    pub all : found ≡ found_as state.Finalized stamp r bytes

-- Of a data file and a metadata file with a good header, wherever they lie apart from tmp and whatever is stored,
-- a front of the bytes is found as RWR, or all of them as FINALIZED.
abbrev pub TwoFilesAreFound : Type 0
TwoFilesAreFound = (block : BlockId) (f mf : Folder) (stamp : Stamp) (r : Rule) (bytes stored : List ℕ) (found : Option Found) →
    block.0 < 2 ^ 64 → stamp.0 < 2 ^ 64 → IsChunkSize r.chunk → IsPlain f → IsPlain mf →
    FindsBlock block (files_of block.0 (Both f bytes mf stamp.0 (header_of r ++ stored))) found →
    IsWaiting found stamp r bytes ⊎ IsFoundFinal f mf stamp r bytes stored found

-- What is held becomes another, neither of them TEMPORARY, and bytes of a FINALIZED replica are cut off only where it stays so.
pub record IsSettling (h k : ReplicaInfo) : Type 0 where
  pub within : k.written ≤ h.written
  pub before : is_temporary h.original ≡ false
  pub after : is_temporary k.original ≡ false
  pub final_cut : k.written < h.written → is_finalized h.original ≡ true → is_finalized k.original ≡ true

-- After a stop at any of the calls by which what is held becomes another, what is found is what the model of replicas allows.
abbrev pub StoppedSettlingsAreFound : Type 0
StoppedSettlingsAreFound = (block : BlockId) (h k : ReplicaInfo) (bytes : List ℕ) (i n : ℕ) (found : Option Found) →
    block.0 < 2 ^ 64 → h.stamp.0 < 2 ^ 64 → k.stamp.0 < 2 ^ 64 → IsChunkSize h.sums.chunk → length bytes ≡ h.written →
    IsSettling h k →
    FindsBlock block (files_of block.0 (all_placed (stopped i n (settle_calls h k bytes)) (placed_info h bytes))) found →
    MayFindBetween h bytes k (take k.written bytes) found

-- After a stop at any of the calls of a packet, a front of the bytes with those that it brings behind is found as RWR.
abbrev pub StoppedPacketsAreFound : Type 0
StoppedPacketsAreFound = (block : BlockId) (h : ReplicaInfo) (bytes more : List ℕ) (sync : Bool) (i n : ℕ) (found : Option Found) →
    block.0 < 2 ^ 64 → h.stamp.0 < 2 ^ 64 → IsChunkSize h.sums.chunk → folder_of h.original ≡ Rbw →
    FindsBlock block (files_of block.0 (all_placed (stopped i n (packet_calls h.sums bytes more sync)) (placed_info h bytes))) found →
    IsWaiting found h.stamp h.sums (bytes ++ more)

-- After a stop at any of the calls that make a new replica, nothing is found, or it without bytes as RWR.
abbrev pub StoppedCreatesAreFound : Type 0
StoppedCreatesAreFound = (block : BlockId) (k : ReplicaInfo) (i n : ℕ) (found : Option Found) →
    block.0 < 2 ^ 64 → k.stamp.0 < 2 ^ 64 → IsChunkSize k.sums.chunk → is_finalized k.original ≡ false →
    FindsBlock block (files_of block.0 (all_placed (stopped i n (create_calls k)) Nowhere)) found → MayFindNew k found

-- A TEMPORARY replica becomes another with the same stamp and bytes.
pub record IsTransfer (h k : ReplicaInfo) : Type 0 where
  pub before : is_temporary h.original ≡ true
  pub after : folder_of k.original ≡ Rbw
  pub stamp : k.stamp ≡ h.stamp
  pub written : k.written ≡ h.written

-- After a stop at any of the calls by which it does, nothing is found, or it with all its bytes as RWR.
abbrev pub StoppedTransfersAreFound : Type 0
StoppedTransfersAreFound = (block : BlockId) (h k : ReplicaInfo) (bytes : List ℕ) (i n : ℕ) (found : Option Found) →
    block.0 < 2 ^ 64 → h.stamp.0 < 2 ^ 64 → IsChunkSize h.sums.chunk → length bytes ≡ h.written → IsTransfer h k →
    FindsBlock block (files_of block.0 (all_placed (stopped i n (sync_calls ++ settle_calls h k bytes)) (placed_info h bytes))) found →
    MayFindReceived h bytes found
