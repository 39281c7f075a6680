-- Laws of the names that have a file on a disk.
use Rattle.std.proofs.Common.{◌≡◌, ℕ, ◌≤◌, true, false, ◌&&◌, ◌||◌, cond, List, [], ◌∷◌, ◌++◌, append-nil, drop, length, map, Option, Some, None, option_map, is_some, arith, refl, sym, ap, ◌∙◌}
use Rattle.std.specs.Str.{bytes_eq}
use Rattle.std.proofs.lemmas.Grind.{common_steps}
use Rattle.std.proofs.lemmas.List.{drop_all}
use Rattle.mem_ports.specs.Apart.{is_among}
use Rattle.mem_ports.proofs.EntryLaws.{same_name}
use Rattle.file_calls.specs.Disks.{Disk, DiskFile, files_on}
use Rattle.fault_ports.specs.declared.entries.DiskEntry.{DiskEntry}
use Rattle.fault_ports.specs.StoredFiles.{disk_by, disk_file_of, present}

abbrev names_of : List DiskEntry → List (List ℕ)
names_of entries = map (λ e. e.name) entries

among_present : (disk : Disk) (entries : List DiskEntry) (q : List ℕ) → is_among bytes_eq (present disk entries) q ≡ (is_some (disk q) && is_among bytes_eq (names_of entries) q)
among_present disk [] q = grind (arith, common_steps)
among_present disk (e ∷ rest) q =
    elim (bytes_eq e.name q) as (λ b. bytes_eq e.name q ≡ b → is_among bytes_eq (present disk (e ∷ rest)) q ≡ (is_some (disk q) && (b || is_among bytes_eq (names_of rest) q))) [
      | true ↦ λ here.
          let same : e.name ≡ q = same_name e.name q here in
          let tail = among_present disk rest q in
          rw same (grind (arith, common_steps, here, same))
      | false ↦ λ here. let tail = among_present disk rest q in grind (arith, common_steps, here)
    ] refl

some_among : (entries : List DiskEntry) (q : List ℕ) → is_some (disk_by entries q) ≡ (is_some (disk_by entries q) && is_among bytes_eq (names_of entries) q)
some_among [] q = refl
some_among (e ∷ rest) q =
    elim (bytes_eq e.name q) as (λ b. is_some (cond b (option_map disk_file_of e.file) (disk_by rest q)) ≡ (is_some (cond b (option_map disk_file_of e.file) (disk_by rest q)) && (b || is_among bytes_eq (names_of rest) q))) [
      | true ↦ grind (arith, common_steps)
      | false ↦ some_among rest q
    ]

some_file : (file : Option DiskFile) → is_some file ≡ is_some (option_map (λ f. f.bytes) file)
some_file None = refl
some_file (Some f) = refl

-- The names that are listed are those of the files.
pub present-files : (entries : List DiskEntry) (q : List ℕ) → is_among bytes_eq (present (disk_by entries) entries) q ≡ is_some (files_on (disk_by entries) q)
present-files entries q = among_present (disk_by entries) entries q ∙ (sym (some_among entries q) ∙ some_file (disk_by entries q))

-- What was listed up to the end is all.
pub all_listed : (disk : Disk) (names : List (List ℕ)) (entries : List DiskEntry) (i : ℕ) → names ++ present disk (drop i entries) ≡ present disk entries → length entries ≤ i → names ≡ present disk entries
all_listed disk names entries i so_far all =
    sym (append-nil names) ∙ (ap (λ rest. names ++ present disk rest) (sym (drop_all i entries all)) ∙ so_far)
