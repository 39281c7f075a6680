-- What a scan makes of the files of one block: what it finds, and by which calls.
use Rattle.std.specs.Prelude.{ℕ, ◌≡◌, ◌⊎◌, ◌+◌, ◌&&◌, not, nat_lt, Bool, true, false, if◌then◌else◌, List, [], ◌∷◌, ◌++◌, length, take, Some, None, IfSome, bytes_eq}
use Rattle.hd_base.specs.SumRules.{Rule}
use Rattle.hd_base.specs.FileMaps.{FileMap, AreNamesOf}
use Rattle.hd_base.specs.Calls.{Call, Rename, Cut, IsUnchanged, StopsWithin}
use Rattle.hd_base.specs.declared.files.Files as files
use Rattle.hd_base.specs.declared.numbers.BlockId.{BlockId}
use Rattle.hd_base.specs.declared.states.ReplicaState.{ReplicaState}
use Rattle.hd_base.specs.declared.states.ReplicaState.TheVariants as state
use Rattle.chunk_sums.specs.Chunks.{sums}
use Rattle.meta_file.specs.declared.names.Folder.{Folder}
use Rattle.meta_file.specs.declared.names.Folder.TheVariants.{Rbw, Finalized, Finalized56, Tmp}
use Rattle.block_files.specs.BlockCalls.{BlockCall, CutData, CutMeta, MoveData, MoveMeta, calls_of}
use Rattle.replica_model.specs.Sums.{header_len, meta_len}
use Rattle.replica_model.specs.Plans.{folder_of, same_folder, when}
use Rattle.replica_calls.specs.declared.names.FileNames.{FileNames}
use Rattle.replica_calls.specs.CallLists.{only, remove_list}
use Rattle.replica_files.specs.Finding.{HoldsBytes}
use Rattle.restart_scan.specs.declared.pairs.PairPlaces.{PairPlaces}
use Rattle.restart_scan.specs.declared.found.Scanned.{Scanned}
use Rattle.restart_scan.specs.Pairs.{Pair, IsPair, placement_of, temporary_part, without_temporary}
use Rattle.restart_scan.specs.Kept.{IsKept}

-- the folder is that of finalized replicas, in either layout
abbrev pub is_final : Folder → Bool
is_final Rbw = false
is_final Finalized = true
is_final Finalized56 = true
is_final Tmp = false

abbrev pub both_final : PairPlaces → Bool
both_final x = is_final x.folder && is_final x.meta_folder

-- both files in this folder
abbrev pub both_in : Folder → PairPlaces → PairPlaces
both_in folder x = record { folder = folder; meta_folder = folder; stamp = x.stamp }

-- where the files lie once those of finalized replicas lie where layout -57 puts them
abbrev pub layout_places : PairPlaces → PairPlaces
layout_places x = if both_final x then both_in Finalized x else x

-- one of them lay elsewhere
abbrev pub is_moved : PairPlaces → Bool
is_moved x = both_final x && not (same_folder x.folder Finalized && same_folder x.meta_folder Finalized)

-- The chunks all match, there are as many sums as the rule has, and no bytes besides.
abbrev pub is_whole : Pair → Bool
is_whole p = bytes_eq p.stored (sums p.rule p.bytes)

-- FINALIZED where both files lie in finalized, and all is whole; else RWR
abbrev pub state_when : Bool → ReplicaState
state_when true = state.Finalized
state_when false = state.Rwr

abbrev pub state_of : Pair → ReplicaState
state_of p = state_when (both_final p.places && is_whole p)

-- where the files lie at the end
abbrev pub last_places : ReplicaState → PairPlaces → PairPlaces
last_places s x = both_in (folder_of s) x

-- The files are given other folders, the metadata file first.
abbrev pub moves : PairPlaces → PairPlaces → List BlockCall
moves x y =
    when (not (same_folder x.meta_folder y.meta_folder)) (MoveMeta y.meta_folder x.stamp.0 ∷ [])
    ++ when (not (same_folder x.folder y.folder)) (MoveData y.folder ∷ [])

-- The files are cut to so many bytes, and to their sums.
abbrev pub cuts : Rule → ℕ → ℕ → ℕ → List BlockCall
cuts r data_len stored_len len =
    when (nat_lt len data_len) (CutData len ∷ [])
    ++ when (nat_lt (meta_len r len) stored_len) (CutMeta (meta_len r len) ∷ [])

-- A pair is moved to the folder of layout -57, and one that isn't FINALIZED then to rbw, and is cut to what is kept.
abbrev pub pair_calls : Pair → ℕ → List BlockCall
pair_calls p len =
    moves p.places (layout_places p.places)
    ++ (moves (layout_places p.places) (last_places (state_of p) p.places)
    ++ cuts p.rule (length p.bytes) (header_len + length p.stored) len)

-- the same by the files' names
abbrev pub move_list : FileNames → FileNames → PairPlaces → PairPlaces → List Call
move_list from to x y =
    only (not (same_folder x.meta_folder y.meta_folder)) (Rename from.meta to.meta)
    ++ only (not (same_folder x.folder y.folder)) (Rename from.«data» to.«data»)

abbrev pub cut_list : FileNames → Rule → ℕ → ℕ → ℕ → List Call
cut_list names r data_len stored_len len =
    only (nat_lt len data_len) (Cut names.«data» len)
    ++ only (nat_lt (meta_len r len) stored_len) (Cut names.meta (meta_len r len))

-- what is found of a pair of which so many bytes are kept
abbrev pub scanned_pair : BlockId → Pair → ℕ → Scanned
scanned_pair block p len = record {
  seen = Some (record {
    block = block;
    folder = folder_of (state_of p);
    state = state_of p;
    stamp = p.places.stamp;
    sums = p.rule;
    length = len;
  });
  is_moved = is_moved p.places;
}

-- where there is no pair
abbrev pub scanned_none : Scanned
scanned_none = record { seen = None; is_moved = false }

-- A scan makes of a pair a replica that the files hold, with the bytes that are kept.
pub record ScansPair (block : BlockId) (old new : FileMap) (x : Scanned) : Type 0 where
  pub pair : Pair
  pub len : ℕ
  pub is_pair : IsPair block old pair
  pub kept : IsKept pair.rule pair.bytes pair.stored len
  pub found : x ≡ scanned_pair block pair len
  pub held : HoldsBytes new block (state_of pair) pair.places.stamp pair.rule (take len pair.bytes)

-- Of other files it removes those in tmp.
pub record ScansOthers (block : BlockId) (old new : FileMap) (x : Scanned) : Type 0 where
  pub none : (p : Pair) → IsPair block old p → ⊥
  pub found : x ≡ scanned_none
  pub left : new ≡ without_temporary old

-- What a scan finds among a block's files, and which files it leaves.
abbrev pub ScansBlock : BlockId → FileMap → FileMap → Scanned → Type 0
ScansBlock block old new x = ScansPair block old new x ⊎ ScansOthers block old new x

-- The calls of a scan on a block's files: files in tmp are removed, and then a pair is settled.
pub data ScanCalls (block : BlockId) (m : FileMap) (calls : List Call) : Type 0 where
  settles : (temporary : List (List ℕ)) → (p : Pair) → (len : ℕ) → AreNamesOf (temporary_part m) temporary → IsPair block m p
      → IsKept p.rule p.bytes p.stored len
      → calls ≡ remove_list temporary ++ calls_of block.0 (pair_calls p len) (placement_of p) → ScanCalls block m calls
  removes : (temporary : List (List ℕ)) → AreNamesOf (temporary_part m) temporary → ((p : Pair) → IsPair block m p → ⊥)
      → calls ≡ remove_list temporary → ScanCalls block m calls

-- A scan of a block's files that failed: nothing was done, or one of the calls failed.
abbrev pub StopsScan : {F : Type 0} → files.Ghosts F → BlockId → F → F → Type 0
StopsScan f block old new = IsUnchanged (f.files old) (f.files new) (f.log old) (f.log new)
    ⊎ IfSome (f.files old) (λ m. (calls : List Call) × ScanCalls block m calls
    × StopsWithin (f.files old) (f.files new) (f.log old) (f.log new) calls)
