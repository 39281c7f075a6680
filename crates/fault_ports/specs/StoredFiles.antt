-- What stored files and lists of them stand for.
use Rattle.std.specs.Prelude.{ℕ, ◌<◌, ◌^◌, true, false, cond, length, List, [], ◌∷◌, Option, Some, None, option_map, IfSome, is_some}
use Rattle.std.proofs.Common.{arith}
use Rattle.std.specs.Str.{bytes_eq}
use Rattle.hd_base.specs.FileMaps.{FileMap}
use Rattle.file_calls.specs.Disks.{DiskFile, Disk, files_on}
use Rattle.fault_ports.specs.Certain.{certain_at}
use Rattle.fault_ports.specs.declared.stored_files.StoredFile.{StoredFile}
use Rattle.fault_ports.specs.declared.entries.DiskEntry.{DiskEntry}
use Rattle.fault_ports.specs.declared.entries.StartEntry.{StartEntry}

-- the file on the disk
abbrev pub disk_file_of : StoredFile → DiskFile
disk_file_of file = record {
  bytes = file.bytes.items;
  certain = certain_at file.certain.items;
  least = file.least;
  greatest = file.greatest;
}

-- the disk that entries show: the first of a name tells
abbrev pub disk_by : List DiskEntry → Disk
disk_by [] name = None
disk_by (entry ∷ rest) name = cond (bytes_eq entry.name name) (option_map disk_file_of entry.file) (disk_by rest name)

-- the files that entries show: the first of a name tells
abbrev pub files_by : List StartEntry → FileMap
files_by [] name = None
files_by (entry ∷ rest) name = cond (bytes_eq entry.name name) (option_map (λ v. v.items) entry.bytes)
    (files_by rest name)

-- the names of these entries that have a file on the disk
abbrev pub present : Disk → List DiskEntry → List (List ℕ)
present disk [] = []
present disk (entry ∷ rest) = cond (is_some (disk entry.name)) (entry.name ∷ present disk rest) (present disk rest)

fits_file : (file : Option StoredFile) →
    IfSome (option_map (λ f. f.bytes) (option_map disk_file_of file)) (λ b. length b < 2 ^ 64)
fits_file None = tt
fits_file (Some file) = omega (arith, file.bytes.ok, file.bytes.small)

-- No file is longer than memory.
pub disk_by-fits : (entries : List DiskEntry) (name : List ℕ) →
    IfSome (files_on (disk_by entries) name) (λ b. length b < 2 ^ 64)
disk_by-fits [] name = tt
disk_by-fits (entry ∷ rest) name =
    elim (bytes_eq entry.name name) as
    (λ here. IfSome (option_map (λ f. f.bytes)
    (cond here (option_map disk_file_of entry.file) (disk_by rest name))) (λ b. length b < 2 ^ 64)) [
      | true ↦ fits_file entry.file
      | false ↦ disk_by-fits rest name
    ]
