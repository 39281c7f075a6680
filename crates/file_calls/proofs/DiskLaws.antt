-- Laws of what stands on the disk: readers see what the calls made of the files, and durable bytes stay.
use Rattle.std.proofs.Common.{◌≡◌, ℕ, zero, suc, ◌<◌, ◌≤◌, ◌+◌, nat_le, true, false, cond, List, [], ◌∷◌, ◌++◌, take, length, Option, Some, None, option_map, IsSomeAnd, arith, refl, sym, subst, ◌∙◌, ap}
use Rattle.std.specs.List.{slice_get}
use Rattle.std.specs.Str.{bytes_eq}
use Rattle.std.specs.Map.{update}
use Rattle.std.proofs.lemmas.Grind.{common_steps}
use Rattle.std.proofs.lemmas.Bool.Decides.{nat_tests}
use Rattle.std.proofs.lemmas.List.{length-take}
use Rattle.std.proofs.lemmas.Slice.Eq.{bytes_eq-Decides}
use Rattle.hd_base.proofs.FileLaws.{bytes_eq-same}
use Rattle.hd_base.specs.FileMaps.{FileMap, overwritten}
use Rattle.hd_base.specs.Calls.{Call, Make, Write, Cut, Sync, Rename, Remove, effect_of, run, cut_short, stopped}
use Rattle.file_calls.specs.Disks.{DiskFile, Disk, synced_file, uncertain_in, written_file, cut_file, made_file, disk_after_call, disk_after, synced_disk, disk_of, files_on}
use Rattle.file_calls.specs.Losses.{MayStand}
use Rattle.file_calls.specs.Durable.{IsDurable, Spares, name_after_call, name_after, AllSpare, HasDurable, HasFront, SyncedStays}
use Rattle.file_calls.proofs.ByteLemmas.{slice_get-take, take-by, slice_get-overwritten, length-overwritten-least, slice_get-within, certain-left}

same_name : (a b : List ℕ) → bytes_eq a b ≡ true → a ≡ b
same_name a b same = grind (arith, common_steps, bytes_eq-Decides a b)

-- what readers see of a file on the disk
abbrev pub seen_of : Option DiskFile → Option (List ℕ)
seen_of file = option_map (λ f. f.bytes) file

-- Readers see these files on the disk.
abbrev pub Shows : Disk → FileMap → Type 0
Shows disk files = (name : List ℕ) → seen_of (disk name) ≡ files name

seen_made : (file : Option DiskFile) → (made_file file).bytes ≡ []
seen_made None = refl
seen_made (Some file) = refl

seen_map : (f : DiskFile → DiskFile) (g : List ℕ → List ℕ) → ((file : DiskFile) → (f file).bytes ≡ g file.bytes) → (file : Option DiskFile) (bytes : Option (List ℕ)) → seen_of file ≡ bytes → seen_of (option_map f file) ≡ option_map g bytes
seen_map f g same None bytes e = ap (option_map g) e
seen_map f g same (Some file) bytes e = ap Some (same file) ∙ ap (option_map g) e

-- one name of a map of files and of a disk
seen_update : (disk : Disk) (files : FileMap) (name : List ℕ) (file : Option DiskFile) (bytes : Option (List ℕ)) → Shows disk files → seen_of file ≡ bytes → Shows (update bytes_eq disk name file) (update bytes_eq files name bytes)
seen_update disk files name file bytes shows same q =
    elim (bytes_eq name q) as (λ b. seen_of (cond b file (disk q)) ≡ cond b bytes (files q)) [ true ↦ same | false ↦ shows q ]

-- A call makes of the disk what it makes of the files that readers see.
pub shows_call : (call : Call) (disk : Disk) (files : FileMap) → Shows disk files → Shows (disk_after_call call disk) (effect_of call files)
shows_call (Make name) disk files shows q = seen_update disk files name _ _ shows (ap Some (seen_made (disk name))) q
shows_call (Write name place bytes) disk files shows q = seen_update disk files name _ _ shows (seen_map (written_file place bytes) (λ b. overwritten b place bytes) (λ f. refl) (disk name) (files name) (shows name)) q
shows_call (Cut name len) disk files shows q = seen_update disk files name _ _ shows (seen_map (cut_file len) (take len) (λ f. refl) (disk name) (files name) (shows name)) q
shows_call (Sync name) disk files shows q =
    elim (bytes_eq name q) as (λ b. bytes_eq name q ≡ b → seen_of (cond b (option_map (λ file. synced_file file.bytes) (disk name)) (disk q)) ≡ files q) [
      | true ↦ λ here.
          seen_map (λ file. synced_file file.bytes) (λ b. b) (λ f. refl) (disk name) (files name) (shows name) ∙ option_same (files name) ∙ ap files (same_name name q here)
      | false ↦ λ here. shows q
    ] refl where
      option_same : (o : Option (List ℕ)) → option_map (λ b. b) o ≡ o
      option_same None = refl
      option_same (Some b) = refl
shows_call (Rename from to) disk files shows q = seen_update _ _ to _ _ (seen_update disk files from None None shows refl) (shows from) q
shows_call (Remove name) disk files shows q = seen_update disk files name None None shows refl q

pub shows_calls : (calls : List Call) (disk : Disk) (files : FileMap) → Shows disk files → Shows (disk_after calls disk) (run calls files)
shows_calls [] disk files shows = shows
shows_calls (call ∷ calls) disk files shows = shows_calls calls _ _ (shows_call call disk files shows)

shows_synced : (files : FileMap) → Shows (synced_disk files) files
shows_synced files name = seen (files name) where
  seen : (o : Option (List ℕ)) → seen_of (option_map synced_file o) ≡ o
  seen None = refl
  seen (Some b) = refl

-- Readers of the disk see the files that the calls made.
pub shows_disk_of : (start : FileMap) (calls : List Call) → Shows (disk_of start calls) (run calls start)
shows_disk_of start calls = shows_calls calls _ _ (shows_synced start)

pub files_on-disk_of : (start : FileMap) (calls : List Call) → files_on (disk_of start calls) ≡ run calls start
files_on-disk_of start calls = λ i name. shows_disk_of start calls name i

-- A file that is synced is wholly durable, and each front of it.
pub durable-synced : (k : ℕ) (bytes : List ℕ) → k ≤ length bytes → IsDurable k bytes (synced_file bytes)
durable-synced k bytes within = record { least = within; long = within; seen = λ i h. refl; certain = λ i h. refl }

certain_before : (place end : ℕ) (certain : ℕ → Option ℕ) (i : ℕ) → i < place → uncertain_in place end certain i ≡ certain i
certain_before place end certain i before =
    let test : nat_le place i ≡ false = grind (arith, nat_tests) in rw test refl

pub durable-written : (k place : ℕ) (written bytes : List ℕ) (file : DiskFile) → k ≤ place → IsDurable k bytes file → IsDurable k bytes (written_file place written file)
durable-written k place written bytes file past d = record {
  least = omega (arith, length-overwritten-least file.bytes place written k past d.long);
  long = length-overwritten-least file.bytes place written k past d.long;
  seen = λ i h. slice_get-overwritten file.bytes place written i (omega arith) (omega (arith, d.long)) ∙ d.seen i h;
  certain = λ i h. certain_before place (place + length written) file.certain i (omega arith) ∙ d.certain i h;
}

pub durable-cut : (k len : ℕ) (bytes : List ℕ) (file : DiskFile) → k ≤ len → IsDurable k bytes file → IsDurable k bytes (cut_file len file)
durable-cut k len bytes file above d = record {
  least = omega (arith, length-take len file.bytes, d.long, d.least);
  long = omega (arith, length-take len file.bytes, d.long);
  seen = λ i h. slice_get-take len file.bytes i (omega arith) ∙ d.seen i h;
  certain = d.certain;
}

-- what a sync of a durable file makes of it
pub durable-sync : (k : ℕ) (bytes : List ℕ) (file : DiskFile) → IsDurable k bytes file → IsDurable k bytes (synced_file file.bytes)
durable-sync k bytes file d = record { least = d.long; long = d.long; seen = d.seen; certain = d.seen }

map_durable : (k : ℕ) (bytes : List ℕ) (f : DiskFile → DiskFile) → ((file : DiskFile) → IsDurable k bytes file → IsDurable k bytes (f file)) → (file : Option DiskFile) → HasDurable k bytes file → HasDurable k bytes (option_map f file)
map_durable k bytes f keeps None d = d
map_durable k bytes f keeps (Some file) d = keeps file d

-- a change of one file that leaves its durable bytes, if it is the one
one_changed : (k : ℕ) (bytes : List ℕ) (f : DiskFile → DiskFile) (disk : Disk) (q name : List ℕ) → (bytes_eq q name ≡ true → (file : DiskFile) → IsDurable k bytes file → IsDurable k bytes (f file)) → HasDurable k bytes (disk name) → HasDurable k bytes (update bytes_eq disk q (option_map f (disk q)) name)
one_changed k bytes f disk q name keeps d =
    elim (bytes_eq q name) as (λ b. bytes_eq q name ≡ b → HasDurable k bytes (cond b (option_map f (disk q)) (disk name))) [
      | true ↦ λ here. let e : q ≡ name = same_name q name here in rw e (map_durable k bytes f (keeps here) (disk name) d)
      | false ↦ λ here. d
    ] refl

-- A call that spares the first bytes of a durable file leaves them durable, under the name that the file then has.
pub durable_call : (call : Call) (disk : Disk) (name : List ℕ) (k : ℕ) (bytes : List ℕ) → Spares k name call → HasDurable k bytes (disk name) → HasDurable k bytes (disk_after_call call disk (name_after_call call name))
durable_call (Make q) disk name k bytes spare d = rw spare d
durable_call (Write q place written) disk name k bytes spare d = one_changed k bytes (written_file place written) disk q name (λ here file. durable-written k place written bytes file (spare here)) d
durable_call (Cut q len) disk name k bytes spare d = one_changed k bytes (cut_file len) disk q name (λ here file. durable-cut k len bytes file (spare here)) d
durable_call (Sync q) disk name k bytes spare d = one_changed k bytes (λ file. synced_file file.bytes) disk q name (λ here file. durable-sync k bytes file) d
durable_call (Rename from to) disk name k bytes spare d =
    elim (bytes_eq from name) as (λ b. bytes_eq from name ≡ b → HasDurable k bytes (disk_after_call (Rename from to) disk (cond b to name))) [
      | true ↦ λ here.
          let e : from ≡ name = same_name from name here in
          let own : bytes_eq to to ≡ true = bytes_eq-same to in
          rw own (rw e d)
      | false ↦ λ here.
          let other : bytes_eq to name ≡ false = spare here in
          rw (other, here) d
    ] refl
durable_call (Remove q) disk name k bytes spare d = rw spare d

pub durable_calls : (calls : List Call) (disk : Disk) (name : List ℕ) (k : ℕ) (bytes : List ℕ) → AllSpare k name calls → HasDurable k bytes (disk name) → HasDurable k bytes (disk_after calls disk (name_after calls name))
durable_calls [] disk name k bytes spare d = d
durable_calls (call ∷ calls) disk name k bytes spare d =
    durable_calls calls _ _ k bytes spare.1 (durable_call call disk name k bytes spare.0 d)

-- What is done of a call that was cut short spares what the whole call spares.
pub spares-cut_short : (n : ℕ) (k : ℕ) (name : List ℕ) (call : Call) → Spares k name call → AllSpare k name (cut_short n call)
spares-cut_short zero k name call spare = tt
spares-cut_short (suc n) k name (Make q) spare = (spare, tt)
spares-cut_short (suc n) k name (Write q place bytes) spare = (spare, tt)
spares-cut_short (suc n) k name (Cut q len) spare = (spare, tt)
spares-cut_short (suc n) k name (Sync q) spare = (spare, tt)
spares-cut_short (suc n) k name (Rename from to) spare = (spare, tt)
spares-cut_short (suc n) k name (Remove q) spare = (spare, tt)

-- Calls that spare the first bytes of a file do so wherever they are stopped.
pub spares-stopped : (i n : ℕ) (k : ℕ) (name : List ℕ) (calls : List Call) → AllSpare k name calls → AllSpare k name (stopped i n calls)
spares-stopped i n k name [] spare = tt
spares-stopped zero n k name (call ∷ calls) spare = spares-cut_short n k name call spare.0
spares-stopped (suc i) n k name (call ∷ calls) spare = (spare.0, spares-stopped i n k _ calls spare.1)

-- Calls in two parts.
pub disk_after-append : (first rest : List Call) (disk : Disk) → disk_after (first ++ rest) disk ≡ disk_after rest (disk_after first disk)
disk_after-append [] rest disk = refl
disk_after-append (call ∷ first) rest disk = disk_after-append first rest (disk_after_call call disk)

-- After a sync the file is durable as readers see it.
pub durable-after_sync : (disk : Disk) (name : List ℕ) (k : ℕ) (bytes : List ℕ) → seen_of (disk name) ≡ Some bytes → k ≤ length bytes → HasDurable k bytes (disk_after_call (Sync name) disk name)
durable-after_sync disk name k bytes seen within =
    let own : bytes_eq name name ≡ true = bytes_eq-same name in
    rw own (by_file (disk name) seen) where
      none_some : {A : Type 0} {x : A} → None ≡ Some x → ⊥
      none_some e = cc

      some_same : (a b : List ℕ) → Some a ≡ Some b → a ≡ b
      some_same a b e = cc

      by_file : (file : Option DiskFile) → seen_of file ≡ Some bytes → HasDurable k bytes (option_map (λ f. synced_file f.bytes) file)
      by_file None e = absurd (none_some e)
      by_file (Some file) e = let same : file.bytes ≡ bytes = some_same file.bytes bytes e in rw same (durable-synced k bytes within)

-- A loss of power leaves what is durable.
pub durable-left : (k : ℕ) (bytes : List ℕ) (file : Option DiskFile) (left : Option (List ℕ)) → k ≤ length bytes → HasDurable k bytes file → MayStand file left → IsSomeAnd left (λ b. take k b ≡ take k bytes)
durable-left k bytes None left within d stands = absurd d
durable-left k bytes (Some file) None within d stands = absurd stands
durable-left k bytes (Some file) (Some b) within d stands =
    take-by k b bytes (omega (arith, d.least, stands.least)) within at where
      at : (i : ℕ) → i < k → slice_get b i ≡ slice_get bytes i
      at i before =
          let there = slice_get-within bytes i (omega arith) in
          certain-left (file.certain i) (slice_get bytes i) (slice_get b i) there.0 (d.certain i before) there.1 (stands.certain i (omega (arith, d.least, stands.least)))

-- What was written and synced stays.
pub synced-stays : SyncedStays
synced-stays start left before more data_name sums_name bytes sums k m i n data_seen sums_seen k_within m_within spares_data spares_sums lost =
    (stays data_name k bytes k_within data_durable spares_data, stays sums_name m sums m_within sums_durable spares_sums) where
      rest : List Call
      rest = stopped i n more

      disk : Disk
      disk = disk_of start before

      shown : (name : List ℕ) → seen_of (disk name) ≡ run before start name
      shown = shows_disk_of start before

      synced_first : Disk
      synced_first = disk_after_call (Sync data_name) disk

      synced_both : Disk
      synced_both = disk_after_call (Sync sums_name) synced_first

      data_durable : HasDurable k bytes (synced_both data_name)
      data_durable = durable_call (Sync sums_name) synced_first data_name k bytes tt (durable-after_sync disk data_name k bytes (shown data_name ∙ data_seen) k_within)

      sums_durable : HasDurable m sums (synced_both sums_name)
      sums_durable =
          durable-after_sync synced_first sums_name m sums
          (shows_call (Sync data_name) disk (run before start) shown sums_name ∙ sums_seen) m_within

      stays : (name : List ℕ) (c : ℕ) (content : List ℕ) → c ≤ length content → HasDurable c content (synced_both name) → AllSpare c name more → HasFront left (name_after rest name) c content
      stays name c content within durable spares =
          durable-left c content (disk_of start (before ++ Sync data_name ∷ Sync sums_name ∷ rest) (name_after rest name)) (left (name_after rest name)) within
          (subst (λ (d : Disk). HasDurable c content (d (name_after rest name))) (sym (disk_after-append before (Sync data_name ∷ Sync sums_name ∷ rest) (synced_disk start)))
          (durable_calls rest synced_both name c content (spares-stopped i n c name more spares) durable))
          (lost (name_after rest name))
