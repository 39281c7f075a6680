-- Calls on a block's two files make of the files what they make of where these lie.
use Rattle.std.proofs.Common.{◌≡◌, ℕ, zero, suc, ◌^◌, ◌<◌, ◌≤◌, true, false, cond, List, [], ◌∷◌, take, length, Option, Some, None, IsSomeAnd, IsSome, arith, refl, ap, ◌∙◌}
use Rattle.std.specs.Str.{bytes_eq}
use Rattle.std.proofs.lemmas.Grind.{common_steps}
use Rattle.std.proofs.lemmas.Slice.Eq.{bytes_eq-Decides}
use Rattle.hd_base.proofs.FileLaws.{bytes_eq-same}
use Rattle.hd_base.specs.FileMaps.{FileMap, no_files, put, changed, moved, overwritten}
use Rattle.hd_base.specs.Calls.{Call, run, effect_of}
use Rattle.hd_base.specs.Calls as file_call
use Rattle.file_calls.specs.Plans.{FindsFile}
use Rattle.meta_file.specs.declared.names.Folder.{Folder}
use Rattle.block_files.specs.Placements.{Placement, Nowhere, DataAlone, Both, data_name, meta_name, files_of}
use Rattle.block_files.specs.BlockCalls.{BlockCall, MakeData, MakeMeta, WriteData, WriteMeta, CutData, CutMeta, SyncData, SyncMeta, MoveData, MoveMeta, placed, call_of, calls_of, IsAble, AreAble, cut_short, stopped}
use Rattle.block_files.specs.Laws.{CallsPlaceFiles, StoppedCallsPlaceFiles, CallsFindFiles}
use Rattle.block_files.proofs.NameLemmas.{data_meta, meta_data}

-- no name is that of both files
not_both : (a b q : List ℕ) → bytes_eq a b ≡ false → bytes_eq a q ≡ true → bytes_eq b q ≡ false
not_both a b q apart here = grind (arith, common_steps, bytes_eq-Decides a b, bytes_eq-Decides a q, bytes_eq-Decides b q)

-- the files, by their names
abbrev two : List ℕ → List ℕ → List ℕ → List ℕ → FileMap
two a x b y = λ q. cond (bytes_eq a q) (Some x) (cond (bytes_eq b q) (Some y) None)

abbrev one : List ℕ → List ℕ → FileMap
one a x = λ q. cond (bytes_eq a q) (Some x) None

makes_first : (a : List ℕ) (q : List ℕ) → put no_files a [] q ≡ one a [] q
makes_first a q = refl

makes_second : (a x b : List ℕ) → bytes_eq a b ≡ false → bytes_eq b a ≡ false → (q : List ℕ) → put (one a x) b [] q ≡ two a x b [] q
makes_second a x b apart other q = grind (arith, common_steps, not_both a b q, not_both b a q)

changes_first : (a x b y : List ℕ) (f : List ℕ → List ℕ) → (q : List ℕ) → changed (two a x b y) a f q ≡ two a (f x) b y q
changes_first a x b y f q = grind (arith, common_steps, bytes_eq-same a)

changes_second : (a x b y : List ℕ) (f : List ℕ → List ℕ) → bytes_eq a b ≡ false → bytes_eq b a ≡ false → (q : List ℕ) → changed (two a x b y) b f q ≡ two a x b (f y) q
changes_second a x b y f apart other q = grind (arith, common_steps, bytes_eq-same b, not_both a b q, not_both b a q)

moves_first : (a c x b y : List ℕ) → bytes_eq a b ≡ false → bytes_eq b a ≡ false → bytes_eq c b ≡ false → bytes_eq b c ≡ false → (q : List ℕ) → moved (two a x b y) a c q ≡ two c x b y q
moves_first a c x b y ab ba cb bc q = grind (arith, common_steps, bytes_eq-same a, not_both a b q, not_both b a q)

moves_second : (a x b c y : List ℕ) → bytes_eq a b ≡ false → bytes_eq b a ≡ false → bytes_eq a c ≡ false → bytes_eq c a ≡ false → (q : List ℕ) → moved (two a x b y) b c q ≡ two a x c y q
moves_second a x b c y ab ba ac ca q = grind (arith, common_steps, bytes_eq-same b, not_both a b q, not_both c a q)

-- A fact of each call that finds its file.
record EachCall (P : Placement → BlockCall → Type 0) : Type 0 where
  make_data : (folder : Folder) → P Nowhere (MakeData folder)
  make_meta : (f : Folder) (d : List ℕ) (folder : Folder) (stamp : ℕ) → P (DataAlone f d) (MakeMeta folder stamp)
  write_data : (f : Folder) (d : List ℕ) (mf : Folder) (g : ℕ) (m : List ℕ) (place : ℕ) (bytes : List ℕ) → place ≤ length d → P (Both f d mf g m) (WriteData place bytes)
  write_meta : (f : Folder) (d : List ℕ) (mf : Folder) (g : ℕ) (m : List ℕ) (place : ℕ) (bytes : List ℕ) → place ≤ length m → P (Both f d mf g m) (WriteMeta place bytes)
  cut_data : (f : Folder) (d : List ℕ) (mf : Folder) (g : ℕ) (m : List ℕ) (len : ℕ) → len ≤ length d → P (Both f d mf g m) (CutData len)
  cut_meta : (f : Folder) (d : List ℕ) (mf : Folder) (g : ℕ) (m : List ℕ) (len : ℕ) → len ≤ length m → P (Both f d mf g m) (CutMeta len)
  sync_data : (f : Folder) (d : List ℕ) (mf : Folder) (g : ℕ) (m : List ℕ) → P (Both f d mf g m) SyncData
  sync_meta : (f : Folder) (d : List ℕ) (mf : Folder) (g : ℕ) (m : List ℕ) → P (Both f d mf g m) SyncMeta
  move_data : (f : Folder) (d : List ℕ) (mf : Folder) (g : ℕ) (m : List ℕ) (folder : Folder) → P (Both f d mf g m) (MoveData folder)
  move_meta : (f : Folder) (d : List ℕ) (mf : Folder) (g : ℕ) (m : List ℕ) (folder : Folder) (stamp : ℕ) → P (Both f d mf g m) (MoveMeta folder stamp)

by_call : (P : Placement → BlockCall → Type 0) → EachCall P → (p : Placement) (call : BlockCall) → IsAble p call → P p call
by_call P each Nowhere (MakeData folder) able = each.make_data folder
by_call P each (DataAlone f d) (MakeMeta folder stamp) able = each.make_meta f d folder stamp
by_call P each (Both f d mf g m) (WriteData place bytes) able = each.write_data f d mf g m place bytes able
by_call P each (Both f d mf g m) (WriteMeta place bytes) able = each.write_meta f d mf g m place bytes able
by_call P each (Both f d mf g m) (CutData len) able = each.cut_data f d mf g m len able
by_call P each (Both f d mf g m) (CutMeta len) able = each.cut_meta f d mf g m len able
by_call P each (Both f d mf g m) SyncData able = each.sync_data f d mf g m
by_call P each (Both f d mf g m) SyncMeta able = each.sync_meta f d mf g m
by_call P each (Both f d mf g m) (MoveData folder) able = each.move_data f d mf g m folder
by_call P each (Both f d mf g m) (MoveMeta folder stamp) able = each.move_meta f d mf g m folder stamp
by_call P each Nowhere (MakeMeta folder stamp) able = absurd able
by_call P each Nowhere (WriteData place bytes) able = absurd able
by_call P each Nowhere (WriteMeta place bytes) able = absurd able
by_call P each Nowhere (CutData len) able = absurd able
by_call P each Nowhere (CutMeta len) able = absurd able
by_call P each Nowhere SyncData able = absurd able
by_call P each Nowhere SyncMeta able = absurd able
by_call P each Nowhere (MoveData folder) able = absurd able
by_call P each Nowhere (MoveMeta folder stamp) able = absurd able
by_call P each (DataAlone f d) (MakeData folder) able = absurd able
by_call P each (DataAlone f d) (WriteData place bytes) able = absurd able
by_call P each (DataAlone f d) (WriteMeta place bytes) able = absurd able
by_call P each (DataAlone f d) (CutData len) able = absurd able
by_call P each (DataAlone f d) (CutMeta len) able = absurd able
by_call P each (DataAlone f d) SyncData able = absurd able
by_call P each (DataAlone f d) SyncMeta able = absurd able
by_call P each (DataAlone f d) (MoveData folder) able = absurd able
by_call P each (DataAlone f d) (MoveMeta folder stamp) able = absurd able
by_call P each (Both f d mf g m) (MakeData folder) able = absurd able
by_call P each (Both f d mf g m) (MakeMeta folder stamp) able = absurd able

-- A call by its names makes of the files what it makes of where they lie.
abbrev Places : ℕ → Placement → BlockCall → Type 0
Places block p call = effect_of (call_of block p call) (files_of block p) ≡ files_of block (placed call p)

each_places : (block : ℕ) → block < 2 ^ 64 → EachCall (Places block)
each_places block fits =
    let apart = λ (f mf : Folder) (g : ℕ). data_meta f mf g block fits in
    let other = λ (f mf : Folder) (g : ℕ). meta_data f mf g block fits in
    record {
      make_data = λ folder. λ i q. makes_first (data_name folder block) q i;
      make_meta = λ f d folder g. λ i q. makes_second (data_name f block) d (meta_name folder g block) (apart f folder g) (other f folder g) q i;
      write_data = λ f d mf g m place bytes fits. λ i q. changes_first (data_name f block) d (meta_name mf g block) m (λ b. overwritten b place bytes) q i;
      write_meta = λ f d mf g m place bytes fits. λ i q. changes_second (data_name f block) d (meta_name mf g block) m (λ b. overwritten b place bytes) (apart f mf g) (other f mf g) q i;
      cut_data = λ f d mf g m len fits. λ i q. changes_first (data_name f block) d (meta_name mf g block) m (take len) q i;
      cut_meta = λ f d mf g m len fits. λ i q. changes_second (data_name f block) d (meta_name mf g block) m (take len) (apart f mf g) (other f mf g) q i;
      sync_data = λ f d mf g m. refl;
      sync_meta = λ f d mf g m. refl;
      move_data = λ f d mf g m folder. λ i q. moves_first (data_name f block) (data_name folder block) d (meta_name mf g block) m (apart f mf g) (other f mf g) (apart folder mf g) (other folder mf g) q i;
      move_meta = λ f d mf g m folder stamp. λ i q. moves_second (data_name f block) d (meta_name mf g block) (meta_name folder stamp block) m (apart f mf g) (other f mf g) (apart f folder stamp) (other f folder stamp) q i;
    }

places : (block : ℕ) (p : Placement) (call : BlockCall) → block < 2 ^ 64 → IsAble p call → Places block p call
places block p call fits able = by_call (Places block) (each_places block fits) p call able

pub calls_place_files : CallsPlaceFiles
calls_place_files block [] p fits able = refl
calls_place_files block (call ∷ calls) p fits able =
    ap (run (calls_of block calls (placed call p))) (places block p call fits able.0)
    ∙ calls_place_files block calls (placed call p) fits able.1

-- What is done of a call that was cut short, by its names.
abbrev CutShort : ℕ → ℕ → Placement → BlockCall → Type 0
CutShort block n p call = (file_call.cut_short n (call_of block p call) ≡ calls_of block (cut_short n call) p) × AreAble p (cut_short n call)

each_cut_short : (block n : ℕ) → EachCall (CutShort block n)
each_cut_short block zero = record {
  make_data = λ folder. (refl, tt);
  make_meta = λ f d folder g. (refl, tt);
  write_data = λ f d mf g m place bytes fits. (refl, tt);
  write_meta = λ f d mf g m place bytes fits. (refl, tt);
  cut_data = λ f d mf g m len fits. (refl, tt);
  cut_meta = λ f d mf g m len fits. (refl, tt);
  sync_data = λ f d mf g m. (refl, tt);
  sync_meta = λ f d mf g m. (refl, tt);
  move_data = λ f d mf g m folder. (refl, tt);
  move_meta = λ f d mf g m folder stamp. (refl, tt);
}
each_cut_short block (suc n) = record {
  make_data = λ folder. (refl, (tt, tt));
  make_meta = λ f d folder g. (refl, (tt, tt));
  write_data = λ f d mf g m place bytes fits. (refl, (fits, tt));
  write_meta = λ f d mf g m place bytes fits. (refl, (fits, tt));
  cut_data = λ f d mf g m len fits. (refl, (fits, tt));
  cut_meta = λ f d mf g m len fits. (refl, (fits, tt));
  sync_data = λ f d mf g m. (refl, (tt, tt));
  sync_meta = λ f d mf g m. (refl, (tt, tt));
  move_data = λ f d mf g m folder. (refl, (tt, tt));
  move_meta = λ f d mf g m folder stamp. (refl, (tt, tt));
}

-- The same of some calls of which one failed.
stopped_names : (block : ℕ) (calls : List BlockCall) (p : Placement) (k n : ℕ) → AreAble p calls → (file_call.stopped k n (calls_of block calls p) ≡ calls_of block (stopped k n calls) p) × AreAble p (stopped k n calls)
stopped_names block [] p k n able = (refl, tt)
stopped_names block (call ∷ rest) p zero n able = by_call (CutShort block n) (each_cut_short block n) p call able.0
stopped_names block (call ∷ rest) p (suc k) n able =
    let later = stopped_names block rest (placed call p) k n able.1 in
    (ap (λ l. call_of block p call ∷ l) later.0, (able.0, later.1))

pub stopped_calls_place_files : StoppedCallsPlaceFiles
stopped_calls_place_files block calls p k n fits able =
    let names = stopped_names block calls p k n able in
    ap (λ l. run l (files_of block p)) names.0
    ∙ calls_place_files block (stopped k n calls) p fits names.1

-- A call finds its file by its name.
abbrev Finds : ℕ → Placement → BlockCall → Type 0
Finds block p call = FindsFile (files_of block p) (call_of block p call)

first_there : (a x : List ℕ) (rest : Option (List ℕ)) → cond (bytes_eq a a) (Some x) rest ≡ Some x
first_there a x rest = rw (bytes_eq-same a) refl

second_there : (a b x y : List ℕ) → bytes_eq a b ≡ false → two a x b y b ≡ Some y
second_there a b x y apart = rw apart (rw (bytes_eq-same b) refl)

has_place : (o : Option (List ℕ)) (x : List ℕ) (place : ℕ) → o ≡ Some x → place ≤ length x → IsSomeAnd o (λ b. place ≤ length b)
has_place o x place e within = rw e within

is_there : (o : Option (List ℕ)) (x : List ℕ) → o ≡ Some x → IsSome o
is_there o x e = rw e refl

each_finds : (block : ℕ) → block < 2 ^ 64 → EachCall (Finds block)
each_finds block fits =
    let apart = λ (f mf : Folder) (g : ℕ). data_meta f mf g block fits in
    record {
      make_data = λ folder. tt;
      make_meta = λ f d folder g. tt;
      write_data = λ f d mf g m place bytes within. has_place _ d place (first_there (data_name f block) d _) within;
      write_meta = λ f d mf g m place bytes within. has_place _ m place (second_there (data_name f block) (meta_name mf g block) d m (apart f mf g)) within;
      cut_data = λ f d mf g m len within. has_place _ d len (first_there (data_name f block) d _) within;
      cut_meta = λ f d mf g m len within. has_place _ m len (second_there (data_name f block) (meta_name mf g block) d m (apart f mf g)) within;
      sync_data = λ f d mf g m. is_there _ d (first_there (data_name f block) d _);
      sync_meta = λ f d mf g m. is_there _ m (second_there (data_name f block) (meta_name mf g block) d m (apart f mf g));
      move_data = λ f d mf g m folder. is_there _ d (first_there (data_name f block) d _);
      move_meta = λ f d mf g m folder stamp. is_there _ m (second_there (data_name f block) (meta_name mf g block) d m (apart f mf g));
    }

pub calls_find_files : CallsFindFiles
calls_find_files block [] p fits able = tt
calls_find_files block (call ∷ calls) p fits able =
    let here : Finds block p call = by_call (Finds block) (each_finds block fits) p call able.0 in
    let rest = calls_find_files block calls (placed call p) fits able.1 in
    (here, rw (places block p call fits able.0) rest)
