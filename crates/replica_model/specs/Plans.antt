-- Where the files of a replica lie, and the calls on them that each event takes, in their order. A call that would change nothing is left out.
use Rattle.std.specs.Prelude.{ℕ, ◌==◌, ◌%◌, nat_lt, not, ◌&&◌, ◌||◌, Bool, true, false, if◌then◌else◌, List, [], ◌∷◌, ◌++◌, length, take, Option, Some, None, IfSome, Ok, Err, ◌≡◌}
use Rattle.hd_base.specs.declared.sum_rule.SumKind.{SumKind}
use Rattle.hd_base.specs.declared.sum_rule.SumKind.TheVariants as kind
use Rattle.hd_base.specs.declared.states.ReplicaState.{ReplicaState}
use Rattle.hd_base.specs.declared.states.ReplicaState.TheVariants as state
use Rattle.hd_base.specs.SumRules.{Rule}
use Rattle.hd_base.specs.FileMaps.{FileMap}
use Rattle.chunk_sums.specs.Chunks.{sums}
use Rattle.meta_file.specs.declared.names.Folder.{Folder}
use Rattle.meta_file.specs.declared.names.Folder.TheVariants.{Rbw, Finalized, Finalized56, Tmp}
use Rattle.meta_file.specs.Headers.{header_of}
use Rattle.block_files.specs.Placements.{Placement, Nowhere, Both, files_of}
use Rattle.block_files.specs.BlockCalls.{BlockCall, MakeData, MakeMeta, WriteData, WriteMeta, CutData, CutMeta, SyncData, SyncMeta, MoveData, MoveMeta}
use Rattle.replica_core.specs.declared.info.ReplicaInfo.{ReplicaInfo}
use Rattle.replica_core.specs.Info.{is_temporary}
use Rattle.replica_core.specs.Transitions.{Outcome, transition}
use Rattle.replica_model.specs.declared.events.ReplicaEvent.{ReplicaEvent}
use Rattle.replica_model.specs.declared.events.ReplicaEvent.TheVariants as replica_event
use Rattle.replica_model.specs.Sums.{tail, sum_place, meta_len, meta_of}
use Rattle.replica_model.specs.Rows.{FullReplica, event_at, brought}

-- the folder of a replica with this state apart from a recovery
abbrev pub folder_of : ReplicaState → Folder
folder_of state.Finalized = Finalized
folder_of state.Temporary = Tmp
folder_of _ = Rbw

-- where the files of a replica that is there lie
abbrev pub placed_info : ReplicaInfo → List ℕ → Placement
placed_info h bytes = Both (folder_of h.original) bytes (folder_of h.original) h.stamp.0 (meta_of h.sums bytes)

-- where the files of a replica lie; of an absent one there are none
abbrev pub placed_under : Option ReplicaInfo → List ℕ → Placement
placed_under None bytes = Nowhere
placed_under (Some h) bytes = placed_info h bytes

abbrev pub placement_of : FullReplica → Placement
placement_of r = placed_under r.known.info r.bytes

-- The files hold the replica: where observable, the block has just its two files. Of an absent or broken replica it says nothing.
abbrev pub HoldsInfo : Option FileMap → ℕ → Option ReplicaInfo → Bool → List ℕ → Type 0
HoldsInfo files block None is_broken bytes = Unit {0}
HoldsInfo files block (Some h) true bytes = Unit {0}
HoldsInfo files block (Some h) false bytes = IfSome files (λ m. m ≡ files_of block (placed_info h bytes))

abbrev pub Holds : Option FileMap → FullReplica → Type 0
Holds files r = HoldsInfo files r.known.block.0 r.known.info r.known.is_broken r.bytes

-- these calls, where the test holds
abbrev pub when : Bool → List BlockCall → List BlockCall
when test calls = if test then calls else []

-- chunks have sums of this kind
abbrev pub has_sums : SumKind → Bool
has_sums kind.Null = false
has_sums kind.Crc32 = true
has_sums kind.Crc32c = true

-- bytes are written behind those that are there, and the sums from the first chunk that grew, in one piece
abbrev pub grow_calls : Rule → List ℕ → List ℕ → List BlockCall
grow_calls r bytes more =
    WriteData (length bytes) more ∷
    when (has_sums r.kind) (WriteMeta (sum_place r (length bytes)) (sums r (tail r bytes ++ more)) ∷ [])

-- both files are synced, the data file first
abbrev pub sync_calls : List BlockCall
sync_calls = SyncData ∷ SyncMeta ∷ []

-- A packet that was taken: bytes past the written ones are written, and both files synced where it asks for that.
abbrev pub packet_calls : Rule → List ℕ → List ℕ → Bool → List BlockCall
packet_calls r bytes more sync = when (nat_lt 0 (length more)) (grow_calls r bytes more) ++ when sync sync_calls

-- the sum of the last chunk is written, if it is short
abbrev pub last_sum_calls : Rule → List ℕ → List BlockCall
last_sum_calls r bytes =
    when (has_sums r.kind && not (length bytes % r.chunk == 0))
    (WriteMeta (sum_place r (length bytes)) (sums r (tail r bytes)) ∷ [])

-- Bytes past a length are cut off: the data, then the sum of the last chunk is written if it is short, then the metadata is cut.
abbrev pub cut_calls : Rule → List ℕ → ℕ → List BlockCall
cut_calls r bytes n =
    when (nat_lt n (length bytes))
    (CutData n ∷ (last_sum_calls r (take n bytes) ++
    when (nat_lt (meta_len r n) (meta_len r (length bytes))) (CutMeta (meta_len r n) ∷ [])))

abbrev pub same_folder : Folder → Folder → Bool
same_folder Rbw Rbw = true
same_folder Finalized Finalized = true
same_folder Finalized56 Finalized56 = true
same_folder Tmp Tmp = true
same_folder _ _ = false

-- the files are given another folder or stamp, the metadata file first
abbrev pub move_calls : Folder → ℕ → Folder → ℕ → List BlockCall
move_calls from held folder stamp =
    when (not (same_folder from folder && held == stamp)) (MoveMeta folder stamp ∷ [])
    ++ when (not (same_folder from folder)) (MoveData folder ∷ [])

-- what is held becomes this: bytes past its length are cut off, and the files moved
abbrev pub settle_calls : ReplicaInfo → ReplicaInfo → List ℕ → List BlockCall
settle_calls h k bytes =
    cut_calls h.sums bytes k.written ++ move_calls (folder_of h.original) h.stamp.0 (folder_of k.original) k.stamp.0

-- the files of a new replica, with the header
abbrev pub create_calls : ReplicaInfo → List BlockCall
create_calls k =
    MakeData (folder_of k.original) ∷ MakeMeta (folder_of k.original) k.stamp.0 ∷ WriteMeta 0 (header_of k.sums) ∷ []

-- a TEMPORARY replica becomes another: its files are synced first
abbrev pub leaves_temporary : ReplicaInfo → ReplicaInfo → Bool
leaves_temporary h k = is_temporary h.original && not (is_temporary k.original)

-- an event that was taken, by what is held before and after it
abbrev pub taken_calls : ReplicaEvent → Option ReplicaInfo → Option ReplicaInfo → List ℕ → List BlockCall
taken_calls e None None bytes = []
taken_calls e None (Some k) bytes = create_calls k
taken_calls e (Some h) None bytes = []
taken_calls (replica_event.Packet conn p) (Some h) (Some k) bytes =
    packet_calls h.sums bytes (brought (length bytes) (replica_event.Packet conn p)) p.sync
taken_calls (replica_event.Other e) (Some h) (Some k) bytes = when (leaves_temporary h k) sync_calls ++
    settle_calls h k bytes

abbrev pub outcome_calls : ReplicaEvent → Option ReplicaInfo → List ℕ → Outcome → List BlockCall
outcome_calls e info bytes (Ok taken) = taken_calls e info taken.replica.info bytes
outcome_calls e info bytes (Err refused) = []

-- The calls of an event at a replica, apart from the removal of other files of the block at a Create or Temporary; one that is refused has none.
abbrev pub plan : FullReplica → ReplicaEvent → List BlockCall
plan r e = outcome_calls e r.known.info r.bytes (transition r.known (event_at r e))

-- a call that changes files: all but a sync
abbrev pub is_changing : BlockCall → Bool
is_changing SyncData = false
is_changing SyncMeta = false
is_changing _ = true

abbrev pub has_changing : List BlockCall → Bool
has_changing [] = false
has_changing (call ∷ calls) = is_changing call || has_changing calls
