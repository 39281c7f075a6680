-- What a loss of power makes of entries of files.
use Rattle.std.specs.Prelude.{◌≡◌, ℕ, List, [], ◌∷◌, Option, option_map}
use Rattle.file_calls.specs.Disks.{DiskFile, synced_file}
use Rattle.fault_ports.specs.declared.entries.DiskEntry.{DiskEntry}
use Rattle.fault_ports.specs.declared.entries.StartEntry.{StartEntry}
use Rattle.fault_ports.specs.StoredFiles.{disk_file_of}

-- Entries of a disk and of files by pairs: each pair has one name, and this holds of its files.
abbrev pub Pairs : (Option DiskFile → Option (List ℕ) → Type 0) → List DiskEntry → List StartEntry → Type 0
Pairs P [] [] = Unit {0}
Pairs P [] (entry ∷ rest) = ⊥
Pairs P (entry ∷ rest) [] = ⊥
Pairs P (entry ∷ disk) (left ∷ rest) =
    (entry.name ≡ left.name) × P (option_map disk_file_of entry.file) (option_map (λ v. v.items) left.bytes) ×
    Pairs P disk rest

-- The file is wholly on the disk.
abbrev pub IsSyncedAs : Option DiskFile → Option (List ℕ) → Type 0
IsSyncedAs file bytes = file ≡ option_map synced_file bytes
