-- Calls that leave the fronts of a replica's files, by the files' names.
use Rattle.std.proofs.Common.{◌≡◌, ℕ, zero, suc, ◌^◌, ◌<◌, true, false, List, [], ◌∷◌, refl, sym, ap, subst, ◌∙◌}
use Rattle.std.specs.Str.{bytes_eq}
use Rattle.hd_base.proofs.FileLaws.{bytes_eq-same}
use Rattle.hd_base.specs.Calls.{Call, Rename}
use Rattle.hd_base.specs.Calls as file_call
use Rattle.file_calls.specs.Durable.{AllSpare, name_after_call, name_after}
use Rattle.meta_file.specs.declared.names.Folder.{Folder}
use Rattle.block_files.specs.Placements.{Placement, Both, data_name, meta_name}
use Rattle.block_files.specs.BlockCalls.{BlockCall, MakeData, MakeMeta, WriteData, WriteMeta, CutData, CutMeta, SyncData, SyncMeta, MoveData, MoveMeta, placed, all_placed, data_at, meta_at, call_of, calls_of, cut_short, stopped}
use Rattle.block_files.proofs.NameLemmas.{data_meta, meta_data}
use Rattle.restart_scan.specs.Laws.{IsPlain}
use Rattle.durable_replicas.specs.Fronts.{LeavesFronts, AllLeaveFronts}

true_false : true ≡ false → ⊥
true_false e = cc

-- a test that is false holds of nothing
never : {A : Type 0} (a b : List ℕ) → bytes_eq a b ≡ false → bytes_eq a b ≡ true → A
never a b off on = absurd (true_false (sym on ∙ off))

renamed_own : (from to : List ℕ) → name_after_call (Rename from to) from ≡ to
renamed_own from to = let own : bytes_eq from from ≡ true = bytes_eq-same from in rw own refl

renamed_other : (from to name : List ℕ) → bytes_eq from name ≡ false → name_after_call (Rename from to) name ≡ name
renamed_other from to name off = rw off refl

-- ---- where the files lie

-- Both files are there, in folders of replicas that are found, under a stamp of 64 bits.
pub record IsLaid (p : Placement) : Type 0 where
  pub folder : Folder
  pub bytes : List ℕ
  pub meta_folder : Folder
  pub stamp : ℕ
  pub meta : List ℕ
  pub is : p ≡ Both folder bytes meta_folder stamp meta
  pub plain : IsPlain folder
  pub meta_plain : IsPlain meta_folder
  pub stamp_fits : stamp < 2 ^ 64

pub laid : (f : Folder) (d : List ℕ) (mf : Folder) (g : ℕ) (m : List ℕ) → IsPlain f → IsPlain mf → g < 2 ^ 64 → IsLaid (Both f d mf g m)
laid f d mf g m plain meta_plain fits =
    record { folder = f; bytes = d; meta_folder = mf; stamp = g; meta = m; is = refl; plain = plain; meta_plain = meta_plain; stamp_fits = fits }

-- A call that leaves the fronts finds both files and leaves both.
pub stays_laid : (k m : ℕ) (calls : List BlockCall) (f : Folder) (d : List ℕ) (mf : Folder) (g : ℕ) (b : List ℕ) → IsPlain f → IsPlain mf → g < 2 ^ 64 → AllLeaveFronts k m calls → IsLaid (all_placed calls (Both f d mf g b))
stays_laid k m [] f d mf g b p q fits leaves = laid f d mf g b p q fits
stays_laid k m (MakeData folder ∷ calls) f d mf g b p q fits leaves = absurd leaves.0
stays_laid k m (MakeMeta folder stamp ∷ calls) f d mf g b p q fits leaves = absurd leaves.0
stays_laid k m (WriteData place bytes ∷ calls) f d mf g b p q fits leaves = stays_laid k m calls f _ mf g b p q fits leaves.1
stays_laid k m (WriteMeta place bytes ∷ calls) f d mf g b p q fits leaves = stays_laid k m calls f d mf g _ p q fits leaves.1
stays_laid k m (CutData len ∷ calls) f d mf g b p q fits leaves = stays_laid k m calls f _ mf g b p q fits leaves.1
stays_laid k m (CutMeta len ∷ calls) f d mf g b p q fits leaves = stays_laid k m calls f d mf g _ p q fits leaves.1
stays_laid k m (SyncData ∷ calls) f d mf g b p q fits leaves = stays_laid k m calls f d mf g b p q fits leaves.1
stays_laid k m (SyncMeta ∷ calls) f d mf g b p q fits leaves = stays_laid k m calls f d mf g b p q fits leaves.1
stays_laid k m (MoveData folder ∷ calls) f d mf g b p q fits leaves = stays_laid k m calls folder d mf g b leaves.0 q fits leaves.1
stays_laid k m (MoveMeta folder stamp ∷ calls) f d mf g b p q fits leaves = stays_laid k m calls f d folder stamp b p leaves.0.0 leaves.0.1 leaves.1

-- ---- the data file

-- The calls spare its front, and give it the name of where it lies then.
pub record SparesData (block k : ℕ) (calls : List BlockCall) (p : Placement) : Type 0 where
  pub spare : AllSpare k (data_at block p) (calls_of block calls p)
  pub named : name_after (calls_of block calls p) (data_at block p) ≡ data_at block (all_placed calls p)

module _ (block k m : ℕ) (fits : block < 2 ^ 64) where
  other : (f mf : Folder) (g : ℕ) → bytes_eq (meta_name mf g block) (data_name f block) ≡ false
  other f mf g = meta_data f mf g block fits

  apart : (f mf : Folder) (g : ℕ) → bytes_eq (data_name f block) (meta_name mf g block) ≡ false
  apart f mf g = data_meta f mf g block fits

  pub spares_data : (calls : List BlockCall) (f : Folder) (d : List ℕ) (mf : Folder) (g : ℕ) (b : List ℕ) → AllLeaveFronts k m calls → SparesData block k calls (Both f d mf g b)
  spares_data [] f d mf g b leaves = record { spare = tt; named = refl }
  spares_data (MakeData folder ∷ calls) f d mf g b leaves = absurd leaves.0
  spares_data (MakeMeta folder stamp ∷ calls) f d mf g b leaves = absurd leaves.0
  spares_data (WriteData place bytes ∷ calls) f d mf g b leaves = let rest = spares_data calls f _ mf g b leaves.1 in record { spare = (λ _. leaves.0, rest.spare); named = rest.named }
  spares_data (WriteMeta place bytes ∷ calls) f d mf g b leaves = let rest = spares_data calls f d mf g _ leaves.1 in record { spare = (λ here. never (meta_name mf g block) (data_name f block) (other f mf g) here, rest.spare); named = rest.named }
  spares_data (CutData len ∷ calls) f d mf g b leaves = let rest = spares_data calls f _ mf g b leaves.1 in record { spare = (λ _. leaves.0, rest.spare); named = rest.named }
  spares_data (CutMeta len ∷ calls) f d mf g b leaves = let rest = spares_data calls f d mf g _ leaves.1 in record { spare = (λ here. never (meta_name mf g block) (data_name f block) (other f mf g) here, rest.spare); named = rest.named }
  spares_data (SyncData ∷ calls) f d mf g b leaves = let rest = spares_data calls f d mf g b leaves.1 in record { spare = (tt, rest.spare); named = rest.named }
  spares_data (SyncMeta ∷ calls) f d mf g b leaves = let rest = spares_data calls f d mf g b leaves.1 in record { spare = (tt, rest.spare); named = rest.named }
  spares_data (MoveData folder ∷ calls) f d mf g b leaves =
      let rest = spares_data calls folder d mf g b leaves.1 in
      let own : bytes_eq (data_name f block) (data_name f block) ≡ true = bytes_eq-same (data_name f block) in
      let e : name_after_call (Rename (data_name f block) (data_name folder block)) (data_name f block) ≡ data_name folder block = renamed_own (data_name f block) (data_name folder block) in
      let later = calls_of block calls (Both folder d mf g b) in
      record { spare = (λ off. never (data_name f block) (data_name f block) off own, subst (λ l. AllSpare k l later) (sym e) rest.spare); named = ap (name_after later) e ∙ rest.named }
  spares_data (MoveMeta folder stamp ∷ calls) f d mf g b leaves =
      let rest = spares_data calls f d folder stamp b leaves.1 in
      let off : bytes_eq (meta_name mf g block) (data_name f block) ≡ false = other f mf g in
      let e : name_after_call (Rename (meta_name mf g block) (meta_name folder stamp block)) (data_name f block) ≡ data_name f block = renamed_other (meta_name mf g block) (meta_name folder stamp block) (data_name f block) off in
      let later = calls_of block calls (Both f d folder stamp b) in
      record { spare = (λ _. other f folder stamp, subst (λ l. AllSpare k l later) (sym e) rest.spare); named = ap (name_after later) e ∙ rest.named }

-- ---- the metadata file

-- The calls spare its front, and give it the name of where it lies then.
pub record SparesMeta (block m : ℕ) (calls : List BlockCall) (p : Placement) : Type 0 where
  pub spare : AllSpare m (meta_at block p) (calls_of block calls p)
  pub named : name_after (calls_of block calls p) (meta_at block p) ≡ meta_at block (all_placed calls p)

module _ (block k m : ℕ) (fits : block < 2 ^ 64) where
  pub spares_meta : (calls : List BlockCall) (f : Folder) (d : List ℕ) (mf : Folder) (g : ℕ) (b : List ℕ) → AllLeaveFronts k m calls → SparesMeta block m calls (Both f d mf g b)
  spares_meta [] f d mf g b leaves = record { spare = tt; named = refl }
  spares_meta (MakeData folder ∷ calls) f d mf g b leaves = absurd leaves.0
  spares_meta (MakeMeta folder stamp ∷ calls) f d mf g b leaves = absurd leaves.0
  spares_meta (WriteData place bytes ∷ calls) f d mf g b leaves = let rest = spares_meta calls f _ mf g b leaves.1 in record { spare = (λ here. never (data_name f block) (meta_name mf g block) (data_meta f mf g block fits) here, rest.spare); named = rest.named }
  spares_meta (WriteMeta place bytes ∷ calls) f d mf g b leaves = let rest = spares_meta calls f d mf g _ leaves.1 in record { spare = (λ _. leaves.0, rest.spare); named = rest.named }
  spares_meta (CutData len ∷ calls) f d mf g b leaves = let rest = spares_meta calls f _ mf g b leaves.1 in record { spare = (λ here. never (data_name f block) (meta_name mf g block) (data_meta f mf g block fits) here, rest.spare); named = rest.named }
  spares_meta (CutMeta len ∷ calls) f d mf g b leaves = let rest = spares_meta calls f d mf g _ leaves.1 in record { spare = (λ _. leaves.0, rest.spare); named = rest.named }
  spares_meta (SyncData ∷ calls) f d mf g b leaves = let rest = spares_meta calls f d mf g b leaves.1 in record { spare = (tt, rest.spare); named = rest.named }
  spares_meta (SyncMeta ∷ calls) f d mf g b leaves = let rest = spares_meta calls f d mf g b leaves.1 in record { spare = (tt, rest.spare); named = rest.named }
  spares_meta (MoveData folder ∷ calls) f d mf g b leaves =
      let rest = spares_meta calls folder d mf g b leaves.1 in
      let off : bytes_eq (data_name f block) (meta_name mf g block) ≡ false = data_meta f mf g block fits in
      let e : name_after_call (Rename (data_name f block) (data_name folder block)) (meta_name mf g block) ≡ meta_name mf g block = renamed_other (data_name f block) (data_name folder block) (meta_name mf g block) off in
      let later = calls_of block calls (Both folder d mf g b) in
      record { spare = (λ _. data_meta folder mf g block fits, subst (λ l. AllSpare m l later) (sym e) rest.spare); named = ap (name_after later) e ∙ rest.named }
  spares_meta (MoveMeta folder stamp ∷ calls) f d mf g b leaves =
      let rest = spares_meta calls f d folder stamp b leaves.1 in
      let own : bytes_eq (meta_name mf g block) (meta_name mf g block) ≡ true = bytes_eq-same (meta_name mf g block) in
      let e : name_after_call (Rename (meta_name mf g block) (meta_name folder stamp block)) (meta_name mf g block) ≡ meta_name folder stamp block = renamed_own (meta_name mf g block) (meta_name folder stamp block) in
      let later = calls_of block calls (Both f d folder stamp b) in
      record { spare = (λ off. never (meta_name mf g block) (meta_name mf g block) off own, subst (λ l. AllSpare m l later) (sym e) rest.spare); named = ap (name_after later) e ∙ rest.named }

-- ---- stops

cut_named : (block n : ℕ) (p : Placement) (call : BlockCall) → file_call.cut_short n (call_of block p call) ≡ calls_of block (cut_short n call) p
cut_named block zero p call = refl
cut_named block (suc n) p (MakeData folder) = refl
cut_named block (suc n) p (MakeMeta folder stamp) = refl
cut_named block (suc n) p (WriteData place bytes) = refl
cut_named block (suc n) p (WriteMeta place bytes) = refl
cut_named block (suc n) p (CutData len) = refl
cut_named block (suc n) p (CutMeta len) = refl
cut_named block (suc n) p SyncData = refl
cut_named block (suc n) p SyncMeta = refl
cut_named block (suc n) p (MoveData folder) = refl
cut_named block (suc n) p (MoveMeta folder stamp) = refl

-- What is done of calls that were stopped, by the files' names.
pub stopped_named : (block : ℕ) (calls : List BlockCall) (p : Placement) (i n : ℕ) → file_call.stopped i n (calls_of block calls p) ≡ calls_of block (stopped i n calls) p
stopped_named block [] p i n = refl
stopped_named block (call ∷ calls) p zero n = cut_named block n p call
stopped_named block (call ∷ calls) p (suc i) n = ap (λ l. call_of block p call ∷ l) (stopped_named block calls (placed call p) i n)

cut_leaves : (k m n : ℕ) (call : BlockCall) → LeavesFronts k m call → AllLeaveFronts k m (cut_short n call)
cut_leaves k m zero call leaves = tt
cut_leaves k m (suc n) (MakeData folder) leaves = absurd leaves
cut_leaves k m (suc n) (MakeMeta folder stamp) leaves = absurd leaves
cut_leaves k m (suc n) (WriteData place bytes) leaves = (leaves, tt)
cut_leaves k m (suc n) (WriteMeta place bytes) leaves = (leaves, tt)
cut_leaves k m (suc n) (CutData len) leaves = (leaves, tt)
cut_leaves k m (suc n) (CutMeta len) leaves = (leaves, tt)
cut_leaves k m (suc n) SyncData leaves = (leaves, tt)
cut_leaves k m (suc n) SyncMeta leaves = (leaves, tt)
cut_leaves k m (suc n) (MoveData folder) leaves = (leaves, tt)
cut_leaves k m (suc n) (MoveMeta folder stamp) leaves = (leaves, tt)

-- Calls that leave the fronts do so wherever they are stopped.
pub stopped_leaves : (k m : ℕ) (calls : List BlockCall) (i n : ℕ) → AllLeaveFronts k m calls → AllLeaveFronts k m (stopped i n calls)
stopped_leaves k m [] i n leaves = tt
stopped_leaves k m (call ∷ calls) zero n leaves = cut_leaves k m n call leaves.0
stopped_leaves k m (call ∷ calls) (suc i) n leaves = (leaves.0, stopped_leaves k m calls i n leaves.1)
