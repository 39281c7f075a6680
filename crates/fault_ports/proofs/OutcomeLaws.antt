-- Laws of what a loss of power makes of files.
use Rattle.std.proofs.Common.{◌≡◌, ℕ, ◌+◌, ◌<◌, ◌≤◌, true, false, cond, List, [], ◌∷◌, ◌++◌, length, take, get_or, Option, Some, None, option_map, IfSome, unwrap_or, arith, refl, sym, ap, subst, ◌∙◌, length-append}
use borrow.Author.Count.{below_more}
use Rattle.std.proofs.lemmas.List.{take_more, take_all}
use Rattle.std.specs.List.{slice_get}
use Rattle.std.specs.Str.{bytes_eq}
use Rattle.hd_base.specs.FileMaps.{FileMap}
use Rattle.file_calls.specs.Disks.{Disk, DiskFile, synced_disk, files_on}
use Rattle.file_calls.proofs.DiskLaws.{files_on-disk_of}
use Rattle.file_calls.specs.Losses.{MayBeLeft, MayStand}
use Rattle.file_calls.proofs.ByteLemmas.{slice_get-front}
use Rattle.fault_ports.specs.declared.entries.DiskEntry.{DiskEntry}
use Rattle.fault_ports.specs.declared.entries.StartEntry.{StartEntry}
use Rattle.fault_ports.specs.StoredFiles.{disk_file_of, disk_by, files_by}
use Rattle.fault_ports.specs.Outcomes.{Pairs, IsSyncedAs}

-- So many bytes stand there, and those that are certain are as they were.
pub record KeepsCertain (certain : ℕ → Option ℕ) (left : List ℕ) (n : ℕ) : Type 0 where
  pub count : length left ≡ n
  pub kept : (i : ℕ) → i < n → IfSome (certain i) (λ b. slice_get left i ≡ Some b)

pub KeepsCertain-none : (certain : ℕ → Option ℕ) → KeepsCertain certain [] 0
KeepsCertain-none certain = record { count = refl; kept = λ i within. absurd (omega (arith, within)) }

slice_get-last : (left : List ℕ) (byte : ℕ) → slice_get (left ++ byte ∷ []) (length left) ≡ Some byte
slice_get-last [] byte = refl
slice_get-last (b ∷ left) byte = slice_get-last left byte

if_same : (o : Option ℕ) (v w : Option ℕ) → v ≡ w → IfSome o (λ b. w ≡ Some b) → IfSome o (λ b. v ≡ Some b)
if_same None v w e h = tt
if_same (Some b) v w e h = e ∙ h

by_certain : (o : Option ℕ) (drawn : ℕ) (v : Option ℕ) → v ≡ Some (unwrap_or o drawn) → IfSome o (λ b. v ≡ Some b)
by_certain None drawn v e = tt
by_certain (Some b) drawn v e = e

-- One byte more: the certain one, or another where none is.
pub KeepsCertain-next : (certain : ℕ → Option ℕ) (left more : List ℕ) (n byte drawn : ℕ) → KeepsCertain certain left n → byte ≡ unwrap_or (certain n) drawn → more ≡ left ++ byte ∷ [] → KeepsCertain certain more (n + 1)
KeepsCertain-next certain left more n byte drawn keeps is all =
    let last : slice_get (left ++ byte ∷ []) n ≡ Some byte =
    ap (slice_get (left ++ byte ∷ [])) (sym keeps.count) ∙ slice_get-last left byte in
    let here : IfSome (certain n) (λ b. slice_get (left ++ byte ∷ []) n ≡ Some b) =
    by_certain (certain n) drawn (slice_get (left ++ byte ∷ []) n) (last ∙ ap Some is) in
    rw all
    (record {
      count = omega (arith, length-append left (byte ∷ []), keeps.count);
      kept = below_more (λ i. IfSome (certain i) (λ b. slice_get (left ++ byte ∷ []) i ≡ Some b)) n
          (λ i within. if_same (certain i) (slice_get (left ++ byte ∷ []) i) (slice_get left i) (slice_get-front left (byte ∷ []) i (omega (arith, keeps.count))) (keeps.kept i within))
          here;
    })

-- All bytes were drawn.
pub MayBeLeft-all : (file : DiskFile) (left : List ℕ) (n : ℕ) → file.least ≤ n → n ≤ file.greatest → KeepsCertain file.certain left n → MayBeLeft file left
MayBeLeft-all file left n least greatest keeps = record {
  least = omega (arith, keeps.count);
  greatest = omega (arith, keeps.count);
  certain = λ i within. keeps.kept i (omega (arith, keeps.count));
}

-- One pair more.
pub Pairs-push : (P : Option DiskFile → Option (List ℕ) → Type 0) (disk : List DiskEntry) (left : List StartEntry) (entry : DiskEntry) (start : StartEntry) → Pairs P disk left → entry.name ≡ start.name → P (option_map disk_file_of entry.file) (option_map (λ v. v.items) start.bytes) → Pairs P (disk ++ entry ∷ []) (left ++ start ∷ [])
Pairs-push P [] [] entry start pairs name holds = (name, holds, tt)
Pairs-push P [] (s ∷ left) entry start pairs name holds = absurd pairs
Pairs-push P (d ∷ disk) [] entry start pairs name holds = absurd pairs
Pairs-push P (d ∷ disk) (s ∷ left) entry start pairs name holds = (pairs.0, pairs.1, Pairs-push P disk left entry start pairs.2 name holds)

-- What holds of each pair holds at each name.
pub Pairs-look : (P : Option DiskFile → Option (List ℕ) → Type 0) (disk : List DiskEntry) (left : List StartEntry) → P None None → Pairs P disk left → (name : List ℕ) → P (disk_by disk name) (files_by left name)
Pairs-look P [] [] none pairs name = none
Pairs-look P [] (s ∷ left) none pairs name = absurd pairs
Pairs-look P (d ∷ disk) [] none pairs name = absurd pairs
Pairs-look P (d ∷ disk) (s ∷ left) none pairs name =
    rw pairs.0
    (elim (bytes_eq s.name name) as (λ b. P (cond b (option_map disk_file_of d.file) (disk_by disk name)) (cond b (option_map (λ v. v.items) s.bytes) (files_by left name))) [
      | true ↦ pairs.1
      | false ↦ Pairs-look P disk left none pairs.2 name
    ])

-- Entries that are on the disk show the disk of their files.
pub disk_by-settled : (disk : List DiskEntry) (start : List StartEntry) → Pairs IsSyncedAs disk start → disk_by disk ≡ synced_disk (files_by start)
disk_by-settled disk start pairs = λ i name. Pairs-look IsSyncedAs disk start refl pairs name i

-- One entry of the disk more.
pub Pairs-next : (P : Option DiskFile → Option (List ℕ) → Type 0) (disk : List DiskEntry) (left more : List StartEntry) (i : ℕ) (entry : DiskEntry) (start : StartEntry) → i < length disk → entry ≡ get_or disk i entry → more ≡ left ++ start ∷ [] → Pairs P (take i disk) left → entry.name ≡ start.name → P (option_map disk_file_of entry.file) (option_map (λ v. v.items) start.bytes) → Pairs P (take (i + 1) disk) more
Pairs-next P disk left more i entry start within is all pairs name holds =
    let next : take (i + 1) disk ≡ take i disk ++ entry ∷ [] = take_more disk i entry within ∙ ap (λ e. take i disk ++ e ∷ []) (sym is) in
    rw (next, all) (Pairs-push P (take i disk) left entry start pairs name holds)

-- One entry of the files more.
pub Pairs-next_left : (P : Option DiskFile → Option (List ℕ) → Type 0) (disk more : List DiskEntry) (left : List StartEntry) (i : ℕ) (entry : DiskEntry) (start : StartEntry) → i < length left → start ≡ get_or left i start → more ≡ disk ++ entry ∷ [] → Pairs P disk (take i left) → entry.name ≡ start.name → P (option_map disk_file_of entry.file) (option_map (λ v. v.items) start.bytes) → Pairs P more (take (i + 1) left)
Pairs-next_left P disk more left i entry start within is all pairs name holds =
    let next : take (i + 1) left ≡ take i left ++ start ∷ [] = take_more left i start within ∙ ap (λ e. take i left ++ e ∷ []) (sym is) in
    rw (next, all) (Pairs-push P disk (take i left) entry start pairs name holds)

-- All entries of the files.
pub disk_by-all : (disk : List DiskEntry) (start : List StartEntry) (i : ℕ) → length start ≤ i → Pairs IsSyncedAs disk (take i start) → disk_by disk ≡ synced_disk (files_by start)
disk_by-all disk start i all pairs =
    disk_by-settled disk start (subst (λ (s : List StartEntry). Pairs IsSyncedAs disk s) (take_all i start all) pairs)

-- Files that are wholly on the disk are seen there.
pub seen-settled : (disk : List DiskEntry) (left : List StartEntry) → disk_by disk ≡ synced_disk (files_by left) → files_on (disk_by disk) ≡ files_by left
seen-settled disk left settled = ap files_on settled ∙ files_on-disk_of (files_by left) []

-- What was left of each entry is what may be left of the disk.
pub lost-all : (old disk : List DiskEntry) (left : List StartEntry) (kept : Disk) → disk_by old ≡ kept → Pairs MayStand old left → disk_by disk ≡ synced_disk (files_by left) → (name : List ℕ) → MayStand (kept name) (files_on (disk_by disk) name)
lost-all old disk left kept same pairs settled name =
    subst (λ (d : Disk). MayStand (d name) (files_on (disk_by disk) name)) same
    (subst (λ (m : FileMap). MayStand (disk_by old name) (m name)) (sym (seen-settled disk left settled)) (Pairs-look MayStand old left tt pairs name))
