-- Calls on the two files of a block, by what they make of where these lie.
use Rattle.std.specs.Prelude.{ℕ, zero, suc, ◌≤◌, List, [], ◌∷◌, take, length}
use Rattle.hd_base.specs.FileMaps.{overwritten}
use Rattle.hd_base.specs.Calls.{Call, Make, Write, Cut, Sync, Rename}
use Rattle.meta_file.specs.declared.names.Folder.{Folder}
use Rattle.block_files.specs.Placements.{Placement, Nowhere, DataAlone, Both, data_name, meta_name}

-- a call on one of the two files, wherever it lies
pub data BlockCall : Type 0 where
  MakeData : (folder : Folder) → BlockCall
  MakeMeta : (folder : Folder) → (stamp : ℕ) → BlockCall
  WriteData : (place : ℕ) → (bytes : List ℕ) → BlockCall
  WriteMeta : (place : ℕ) → (bytes : List ℕ) → BlockCall
  CutData : (len : ℕ) → BlockCall
  CutMeta : (len : ℕ) → BlockCall
  SyncData : BlockCall
  SyncMeta : BlockCall
  MoveData : (folder : Folder) → BlockCall
  MoveMeta : (folder : Folder) → (stamp : ℕ) → BlockCall

-- where the files lie after a call: one that finds no file changes nothing
abbrev pub placed : BlockCall → Placement → Placement
placed (MakeData folder) Nowhere = DataAlone folder []
placed (MakeMeta folder stamp) (DataAlone f d) = Both f d folder stamp []
placed (WriteData place bytes) (Both f d mf g m) = Both f (overwritten d place bytes) mf g m
placed (WriteMeta place bytes) (Both f d mf g m) = Both f d mf g (overwritten m place bytes)
placed (CutData len) (Both f d mf g m) = Both f (take len d) mf g m
placed (CutMeta len) (Both f d mf g m) = Both f d mf g (take len m)
placed (MoveData folder) (Both f d mf g m) = Both folder d mf g m
placed (MoveMeta folder stamp) (Both f d mf g m) = Both f d folder stamp m
placed _ p = p

-- where the files lie after some calls, in their order
abbrev pub all_placed : List BlockCall → Placement → Placement
all_placed [] p = p
all_placed (call ∷ calls) p = all_placed calls (placed call p)

-- the data file's name, if it is there
abbrev pub data_at : ℕ → Placement → List ℕ
data_at block Nowhere = []
data_at block (DataAlone f d) = data_name f block
data_at block (Both f d mf g m) = data_name f block

-- the metadata file's name, if it is there
abbrev pub meta_at : ℕ → Placement → List ℕ
meta_at block Nowhere = []
meta_at block (DataAlone f d) = []
meta_at block (Both f d mf g m) = meta_name mf g block

-- the call by its names
abbrev pub call_of : ℕ → Placement → BlockCall → Call
call_of block p (MakeData folder) = Make (data_name folder block)
call_of block p (MakeMeta folder stamp) = Make (meta_name folder stamp block)
call_of block p (WriteData place bytes) = Write (data_at block p) place bytes
call_of block p (WriteMeta place bytes) = Write (meta_at block p) place bytes
call_of block p (CutData len) = Cut (data_at block p) len
call_of block p (CutMeta len) = Cut (meta_at block p) len
call_of block p SyncData = Sync (data_at block p)
call_of block p SyncMeta = Sync (meta_at block p)
call_of block p (MoveData folder) = Rename (data_at block p) (data_name folder block)
call_of block p (MoveMeta folder stamp) = Rename (meta_at block p) (meta_name folder stamp block)

-- the calls by their names
abbrev pub calls_of : ℕ → List BlockCall → Placement → List Call
calls_of block [] p = []
calls_of block (call ∷ calls) p = call_of block p call ∷ calls_of block calls (placed call p)

-- The call finds its file, and its place in it; a file that is made isn't there yet.
abbrev pub IsAble : Placement → BlockCall → Type 0
IsAble Nowhere (MakeData folder) = Unit {0}
IsAble (DataAlone f d) (MakeMeta folder stamp) = Unit {0}
IsAble (Both f d mf g m) (WriteData place bytes) = place ≤ length d
IsAble (Both f d mf g m) (WriteMeta place bytes) = place ≤ length m
IsAble (Both f d mf g m) (CutData len) = len ≤ length d
IsAble (Both f d mf g m) (CutMeta len) = len ≤ length m
IsAble (Both f d mf g m) SyncData = Unit {0}
IsAble (Both f d mf g m) SyncMeta = Unit {0}
IsAble (Both f d mf g m) (MoveData folder) = Unit {0}
IsAble (Both f d mf g m) (MoveMeta folder stamp) = Unit {0}
IsAble _ _ = ⊥

-- Each call finds its file in what the calls before it made.
abbrev pub AreAble : Placement → List BlockCall → Type 0
AreAble p [] = Unit {0}
AreAble p (call ∷ calls) = IsAble p call × AreAble (placed call p) calls

-- What may be done of a call that failed: with 0 nothing, with n + 1 the first n bytes of a write, and all of another call.
abbrev pub cut_short : ℕ → BlockCall → List BlockCall
cut_short zero call = []
cut_short (suc n) (MakeData folder) = MakeData folder ∷ []
cut_short (suc n) (MakeMeta folder stamp) = MakeMeta folder stamp ∷ []
cut_short (suc n) (WriteData place bytes) = WriteData place (take n bytes) ∷ []
cut_short (suc n) (WriteMeta place bytes) = WriteMeta place (take n bytes) ∷ []
cut_short (suc n) (CutData len) = CutData len ∷ []
cut_short (suc n) (CutMeta len) = CutMeta len ∷ []
cut_short (suc n) SyncData = SyncData ∷ []
cut_short (suc n) SyncMeta = SyncMeta ∷ []
cut_short (suc n) (MoveData folder) = MoveData folder ∷ []
cut_short (suc n) (MoveMeta folder stamp) = MoveMeta folder stamp ∷ []

-- What is done of some calls where the call number k (from 0) fails and is cut short by n; all of them where there is no such call.
abbrev pub stopped : ℕ → ℕ → List BlockCall → List BlockCall
stopped k n [] = []
stopped zero n (call ∷ calls) = cut_short n call
stopped (suc k) n (call ∷ calls) = call ∷ stopped k n calls
