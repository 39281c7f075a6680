-- What stands on the disk: for each file, what a loss of power may make of it, and how the calls on files change that.
use Rattle.std.specs.Prelude.{ℕ, ◌+◌, ◌&&◌, nat_lt, nat_le, min, max, cond, List, [], ◌∷◌, take, length, slice_get, Option, Some, None, option_map}
use Rattle.std.specs.Str.{bytes_eq}
use Rattle.std.specs.Map.{update}
use Rattle.hd_base.specs.FileMaps.{FileMap, overwritten}
use Rattle.hd_base.specs.Calls.{Call, Make, Write, Cut, Sync, Rename, Remove}

-- A file with unsynced changes: its bytes as readers see them; at each place the byte that stands there after a loss that leaves the file that long (None: any byte may); and the least and the greatest length since its last sync.
pub record DiskFile : Type 0 where
  pub bytes : List ℕ
  pub certain : ℕ → Option ℕ
  pub least : ℕ
  pub greatest : ℕ

-- a file of which all is on the disk
abbrev pub synced_file : List ℕ → DiskFile
synced_file bytes = record { bytes = bytes; certain = slice_get bytes; least = length bytes; greatest = length bytes }

-- a file with other bytes, which are certain at these places
abbrev pub changed_file : List ℕ → (ℕ → Option ℕ) → DiskFile → DiskFile
changed_file bytes certain file = record {
  bytes = bytes;
  certain = certain;
  least = min file.least (length bytes);
  greatest = max file.greatest (length bytes);
}

-- the bytes that are certain, without those from a place to an end
abbrev pub uncertain_in : ℕ → ℕ → (ℕ → Option ℕ) → ℕ → Option ℕ
uncertain_in place end certain i = cond (nat_le place i && nat_lt i end) None (certain i)

-- a file after a write
abbrev pub written_file : ℕ → List ℕ → DiskFile → DiskFile
written_file place bytes file =
    changed_file (overwritten file.bytes place bytes) (uncertain_in place (place + length bytes) file.certain) file

-- A file after a cut. Past it the bytes are certain as they were, for an outcome that is longer.
abbrev pub cut_file : ℕ → DiskFile → DiskFile
cut_file len file = changed_file (take len file.bytes) file.certain file

-- a file after it was made: one that was there is cut to nothing
abbrev pub made_file : Option DiskFile → DiskFile
made_file None = synced_file []
made_file (Some file) = cut_file 0 file

-- the files on the disk by their names
abbrev pub Disk : Type 0
Disk = List ℕ → Option DiskFile

-- the files that readers see on a disk
abbrev pub files_on : Disk → FileMap
files_on disk = λ name. option_map (λ file. file.bytes) (disk name)

-- the disk after a call
abbrev pub disk_after_call : Call → Disk → Disk
disk_after_call (Make name) disk = update bytes_eq disk name (Some (made_file (disk name)))
disk_after_call (Write name place bytes) disk =
    update bytes_eq disk name (option_map (written_file place bytes) (disk name))
disk_after_call (Cut name len) disk = update bytes_eq disk name (option_map (cut_file len) (disk name))
disk_after_call (Sync name) disk =
    update bytes_eq disk name (option_map (λ file. synced_file file.bytes) (disk name))
disk_after_call (Rename from to) disk = update bytes_eq (update bytes_eq disk from None) to (disk from)
disk_after_call (Remove name) disk = update bytes_eq disk name None

-- the disk after some calls, in their order
abbrev pub disk_after : List Call → Disk → Disk
disk_after [] disk = disk
disk_after (call ∷ calls) disk = disk_after calls (disk_after_call call disk)

-- a disk on which all of these files stand
abbrev pub synced_disk : FileMap → Disk
synced_disk files = λ name. option_map synced_file (files name)

-- the disk after some calls on files that were wholly on it
abbrev pub disk_of : FileMap → List Call → Disk
disk_of start calls = disk_after calls (synced_disk start)
