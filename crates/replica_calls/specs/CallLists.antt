-- Lists of calls on a replica's files, by the files' names.
use Rattle.std.specs.Prelude.{ℕ, ◌==◌, ◌%◌, nat_lt, not, ◌&&◌, Bool, true, false, if◌then◌else◌, List, [], ◌∷◌, ◌++◌, length}
use Rattle.std.specs.Int.{w32, to_be_bytes}
use Rattle.hd_base.specs.SumRules.{Rule}
use Rattle.hd_base.specs.Calls.{Call, Make, Write, Cut, Sync, Rename, Remove}
use Rattle.meta_file.specs.declared.names.Folder.{Folder}
use Rattle.block_files.specs.Placements.{data_name, meta_name}
use Rattle.file_calls.specs.declared.calls.FileCall.{FileCall}
use Rattle.replica_core.specs.declared.info.ReplicaInfo.{ReplicaInfo}
use Rattle.replica_model.specs.Sums.{sum_place, meta_len}
use Rattle.replica_model.specs.Plans.{folder_of, has_sums, same_folder, leaves_temporary}
use Rattle.replica_calls.specs.declared.names.FileNames.{FileNames}

-- the names of a block's files in this folder, under this stamp
abbrev pub names_in : ℕ → Folder → ℕ → FileNames
names_in block folder stamp = record { «data» = data_name folder block; meta = meta_name folder stamp block }

-- the names of the files of a replica that holds this
abbrev pub names_of : ℕ → ReplicaInfo → FileNames
names_of block h = names_in block (folder_of h.original) h.stamp.0

-- this call, where the test holds
abbrev pub only : {C : Type 0} → Bool → C → List C
only test call = if test then call ∷ [] else []

-- these calls, where the test holds
abbrev pub all_if : {C : Type 0} → Bool → List C → List C
all_if test calls = if test then calls else []

-- both files are synced, the data file first
abbrev pub sync_list : FileNames → List Call
sync_list names = Sync names.«data» ∷ Sync names.meta ∷ []

-- Bytes are written behind those that are there, and their sums from the chunk on that was the last.
abbrev pub grow_list : FileNames → Rule → ℕ → List ℕ → List ℕ → List Call
grow_list names r written more sums =
    Write names.«data» written more ∷ only (has_sums r.kind) (Write names.meta (sum_place r written) sums)

-- the calls of a packet that brings these bytes
abbrev pub packet_list : FileNames → Rule → ℕ → List ℕ → List ℕ → Bool → List Call
packet_list names r written more sums sync =
    all_if (nat_lt 0 (length more)) (grow_list names r written more sums) ++ all_if sync (sync_list names)

-- The data is cut, then the sum of the last chunk is written if it is short, then the metadata is cut.
abbrev pub shorter_list : FileNames → Rule → ℕ → ℕ → List ℕ → List Call
shorter_list names r written n sum =
    Cut names.«data» n
    ∷ (only (has_sums r.kind && not (n % r.chunk == 0)) (Write names.meta (sum_place r n) sum)
    ++ only (nat_lt (meta_len r n) (meta_len r written)) (Cut names.meta (meta_len r n)))

-- the same where there are bytes past that length
abbrev pub cut_list : FileNames → Rule → ℕ → ℕ → List ℕ → List Call
cut_list names r written n sum = all_if (nat_lt n written) (shorter_list names r written n sum)

-- The files are given another folder or stamp, the metadata file first.
abbrev pub move_list : FileNames → FileNames → Folder → ℕ → Folder → ℕ → List Call
move_list before after from held folder stamp =
    only (not (same_folder from folder && held == stamp)) (Rename before.meta after.meta)
    ++ only (not (same_folder from folder)) (Rename before.«data» after.«data»)

-- the calls by which what is held becomes another
abbrev pub settle_list : FileNames → FileNames → ReplicaInfo → ReplicaInfo → ℕ → List Call
settle_list before after h k last_sum =
    all_if (leaves_temporary h k) (sync_list before)
    ++ (cut_list before h.sums h.written k.written (to_be_bytes w32 last_sum)
    ++ move_list before after (folder_of h.original) h.stamp.0 (folder_of k.original) k.stamp.0)

-- the removal of these files
abbrev pub remove_list : List (List ℕ) → List Call
remove_list [] = []
remove_list (name ∷ names) = Remove name ∷ remove_list names

-- the files of a new replica, with this header
abbrev pub new_list : FileNames → List ℕ → List Call
new_list names header = Make names.«data» ∷ Make names.meta ∷ Write names.meta 0 header ∷ []

-- the same where other files of the block are removed first
abbrev pub create_list : List (List ℕ) → FileNames → List ℕ → List Call
create_list strays names header = remove_list strays ++ new_list names header
