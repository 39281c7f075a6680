-- Laws of the calls on a replica's files.
use Rattle.std.specs.Prelude.{◌≡◌, ℕ, ◌+◌, ◌<◌, ◌≤◌, Bool, List, ◌++◌, length, take, Some}
use Rattle.hd_base.specs.FileMaps.{FileMap, no_files, AreNamesOf}
use Rattle.hd_base.specs.Calls.{Call, run}
use Rattle.hd_base.specs.SumRules.{Rule}
use Rattle.file_calls.specs.Plans.{FindFiles, HasRoom}
use Rattle.chunk_sums.specs.Chunks.{sums}
use Rattle.meta_file.specs.Headers.{header_of}
use Rattle.block_files.specs.Placements.{Nowhere}
use Rattle.block_files.specs.BlockCalls.{calls_of}
use Rattle.replica_core.specs.declared.events.Event.{Event}
use Rattle.replica_core.specs.declared.info.ReplicaInfo.{ReplicaInfo}
use Rattle.replica_model.specs.declared.events.ReplicaEvent.TheVariants as replica_event
use Rattle.replica_model.specs.Sums.{tail, sum_place}
use Rattle.replica_model.specs.Plans.{placed_info, packet_calls, create_calls, taken_calls}
use Rattle.replica_calls.specs.declared.names.FileNames.{FileNames}
use Rattle.replica_calls.specs.LastSums.{IsLastSum}
use Rattle.replica_calls.specs.CallLists.{names_of, packet_list, settle_list, new_list, create_list, remove_list}

-- The calls of a packet that brings these bytes, where the sums are those of the bytes with them behind.
abbrev pub PacketsFollowPlans : Type 0
PacketsFollowPlans = (block : ℕ) (h : ReplicaInfo) (bytes more : List ℕ) (sync : Bool) →
    calls_of block (packet_calls h.sums bytes more sync) (placed_info h bytes)
    ≡ packet_list (names_of block h) h.sums (length bytes) more (sums h.sums (tail h.sums bytes ++ more)) sync

-- The calls of another event by which what is held becomes this, where the sum is that of the bytes that are left.
abbrev pub SettlingFollowsPlans : Type 0
SettlingFollowsPlans = (block : ℕ) (e : Event) (h k : ReplicaInfo) (bytes : List ℕ) (last_sum : ℕ) →
    1 ≤ h.sums.chunk → length bytes ≡ h.written → k.written ≤ h.written →
    IsLastSum h.sums last_sum (take k.written bytes) →
    calls_of block (taken_calls (replica_event.Other e) (Some h) (Some k) bytes) (placed_info h bytes)
    ≡ settle_list (names_of block h) (names_of block k) h k last_sum

-- the calls of a new replica
abbrev pub CreatesFollowPlans : Type 0
CreatesFollowPlans = (block : ℕ) (k : ReplicaInfo) →
    calls_of block (create_calls k) Nowhere ≡ new_list (names_of block k) (header_of k.sums)

-- A packet needs room for all bytes and their sums.
abbrev pub PacketsHaveRoom : Type 0
PacketsHaveRoom = (room : List ℕ → ℕ) (names : FileNames) (r : Rule) (written : ℕ) (more sums : List ℕ) (sync : Bool) →
    written + length more < room names.«data» → sum_place r written + length sums < room names.meta →
    HasRoom room (packet_list names r written more sums sync)

-- Bytes that are cut off need room for the sum that is written.
abbrev pub SettlingHasRoom : Type 0
SettlingHasRoom = (room : List ℕ → ℕ) (before after : FileNames) (h k : ReplicaInfo) (last_sum : ℕ) →
    (k.written < h.written → sum_place h.sums k.written + 4 < room before.meta) →
    HasRoom room (settle_list before after h k last_sum)

-- A new replica needs room for the header.
abbrev pub CreatesHaveRoom : Type 0
CreatesHaveRoom = (room : List ℕ → ℕ) (strays : List (List ℕ)) (names : FileNames) (header : List ℕ) →
    0 < room names.«data» → length header < room names.meta → HasRoom room (create_list strays names header)

-- Where these are the names of all files, each is found, and none is left.
abbrev pub StraysAreRemoved : Type 0
StraysAreRemoved = (files : FileMap) (names : List (List ℕ)) → AreNamesOf files names →
    FindFiles files (remove_list names) × (run (remove_list names) files ≡ no_files)
