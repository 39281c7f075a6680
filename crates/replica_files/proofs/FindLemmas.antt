-- The book of what a restart found.
use Rattle.std.proofs.Common.{◌≡◌, ℕ, ◌<◌, ◌^◌, Bool, false, List, length, Option, Some, None, IfSome, IsSome, refl, sym, ap, subst, ◌∙◌}
use Rattle.hd_base.proofs.FileLaws.{bytes_eq-same}
use Rattle.hd_base.specs.Bytes.{IsBytes}
use Rattle.hd_base.specs.Blocks.{is_of_block}
use Rattle.hd_base.specs.FileMaps.{FileMap, OnlyOf}
use Rattle.hd_base.specs.SumRules.{Rule, IsChunkSize}
use Rattle.hd_base.specs.declared.numbers.BlockId.{BlockId}
use Rattle.hd_base.specs.declared.numbers.Stamp.{Stamp}
use Rattle.hd_base.specs.declared.states.ReplicaState.{ReplicaState}
use Rattle.hd_base.specs.declared.files.Files as files
use Rattle.block_files.specs.Placements.{files_of, data_name, meta_name}
use Rattle.replica_core.specs.declared.info.ReplicaInfo.{ReplicaInfo}
use Rattle.replica_core.specs.declared.records.ReplicaRecord.{ReplicaRecord}
use Rattle.replica_core.specs.Info.{settled_at}
use Rattle.replica_core.specs.Transitions.{found}
use Rattle.replica_core.proofs.SoundLemmas.{found_sound}
use Rattle.replica_model.specs.Rows.{FullReplica}
use Rattle.replica_model.specs.Plans.{folder_of, placed_info, HoldsInfo}
use Rattle.replica_calls.specs.CallLists.{names_in}
use Rattle.replica_calls.specs.LastSums.{IsLastSum}
use Rattle.replica_calls.specs.Performed.{KeepsAll}
use Rattle.replica_files.proofs.OnlyLemmas.{apart, data_of, meta_of_block}
use Rattle.replica_files.specs.Books.{IsHeld, IsBookOf, replica_of}
use Rattle.replica_files.specs.Finding.{HoldsBytes, HoldsFound}
use Rattle.replica_files.specs.declared.book_state.BookState.{BookState}

-- the replica at the start
abbrev pub begun_with : BlockId → ReplicaState → Stamp → Rule → List ℕ → FullReplica
begun_with block state stamp rule bytes = record { known = found block (settled_at state stamp rule (length bytes)); bytes = bytes }

data_there : (m : FileMap) (block : BlockId) (state : ReplicaState) (stamp : Stamp) (rule : Rule) (bytes : List ℕ) → HoldsBytes m block state stamp rule bytes → m (names_in block.0 (folder_of state) stamp.0).«data» ≡ Some bytes
data_there m block state stamp rule bytes holds =
    ap (λ (x : FileMap). x (data_name (folder_of state) block.0)) holds ∙ itself where
      itself : files_of block.0 (placed_info (settled_at state stamp rule (length bytes)) bytes) (data_name (folder_of state) block.0) ≡ Some bytes
      itself = rw (bytes_eq-same (data_name (folder_of state) block.0)) refl

-- the data file is there
pub found_there : (files : Option FileMap) (block : BlockId) (state : ReplicaState) (stamp : Stamp) (rule : Rule) → HoldsFound files block state stamp rule → IfSome files (λ m. IsSome (m (names_in block.0 (folder_of state) stamp.0).«data»))
found_there None block state stamp rule holds = tt
found_there (Some m) block state stamp rule holds = subst IsSome (sym (data_there m block state stamp rule holds.0 holds.1)) refl

-- the bytes that were read are those of the files
pub found_bytes : (files : Option FileMap) (block : BlockId) (state : ReplicaState) (stamp : Stamp) (rule : Rule) (got : List ℕ) → HoldsFound files block state stamp rule
    → ((m : FileMap) (bytes : List ℕ) → files ≡ Some m → m (names_in block.0 (folder_of state) stamp.0).«data» ≡ Some bytes → got ≡ bytes) → IfSome files (λ m. HoldsBytes m block state stamp rule got)
found_bytes None block state stamp rule got holds value = tt
found_bytes (Some m) block state stamp rule got holds value =
    subst (HoldsBytes m block state stamp rule) (sym (value m holds.0 refl (data_there m block state stamp rule holds.0 holds.1))) holds.1

if_some : (o : Option FileMap) (P Q : FileMap → Type 0) → ((m : FileMap) → P m → Q m) → IfSome o P → IfSome o Q
if_some None P Q f p = tt
if_some (Some m) P Q f p = f m p

-- The files hold it.
pub found_held : {F : Type 0} (f : files.Ghosts F) (old new : F) (block : BlockId) (state : ReplicaState) (stamp : Stamp) (rule : Rule) (bytes : List ℕ) (sum : ℕ) → block.0 < 2 ^ 64 → stamp.0 < 2 ^ 64 → IsChunkSize rule.chunk → IsBytes bytes → KeepsAll f old new
    → IfSome (f.files old) (λ m. HoldsBytes m block state stamp rule bytes) → IsLastSum rule sum bytes → IsHeld f new block sum (begun_with block state stamp rule bytes)
found_held f old new block state stamp rule bytes sum fits stamp_fits size are kept holds last =
    record {
      fits = fits;
      of_block = refl;
      full = record { sound = found_sound block state stamp rule (length bytes); rule = size; all = refl };
      are_bytes = are;
      holds = subst (λ (o : Option FileMap). IfSome o (λ m. HoldsBytes m block state stamp rule bytes)) (sym kept.same) holds;
      only = subst (λ (o : Option FileMap). OnlyOf block.0 o) (sym kept.same) (only_held (f.files old) holds);
      last = if_some_each (f.files new) (λ _. last);
    } where
      if_some_each : {P : Type 0} (o : Option FileMap) → P → IfSome o (λ _. P)
      if_some_each None p = tt
      if_some_each (Some m) p = p

      only_held : (o : Option FileMap) → IfSome o (λ m. HoldsBytes m block state stamp rule bytes) → OnlyOf block.0 o
      only_held None h = tt
      only_held (Some m) h = λ name other. ap (λ (x : FileMap). x name) h ∙ none_other name other where
        none_other : (name : List ℕ) → is_of_block block.0 name ≡ false → files_of block.0 (placed_info (settled_at state stamp rule (length bytes)) bytes) name ≡ None
        none_other name other =
            rw (apart block.0 (data_name (folder_of state) block.0) name (data_of (folder_of state) block.0 fits) other, apart block.0 (meta_name (folder_of state) stamp.0 block.0) name (meta_of_block (folder_of state) block.0 stamp.0 fits stamp_fits) other) refl

-- what holds a replica that isn't broken holds one that may be found
found_info : (files : Option FileMap) (block : BlockId) (h : ReplicaInfo) (bytes : List ℕ) → HoldsInfo files block.0 (Some h) false bytes → HoldsFound files block h.original h.stamp h.sums
found_info None block h bytes holds = tt
found_info (Some m) block h bytes holds = (bytes, holds)

-- What the files of a book hold can be found again.
pub book_found : {F : Type 0} (f : files.Ghosts F) (s : BookState F) (h : ReplicaInfo) → IsBookOf f s → s.replica.info ≡ Some h → s.replica.is_broken ≡ false → HoldsFound (f.files s.drawer) s.replica.block h.original h.stamp h.sums
book_found f s h book info whole =
    let r = replica_of s in
    let same : r.known ≡ s.replica = sym book.known in
    found_info (f.files s.drawer) s.replica.block h r.bytes
    (subst (λ (b : Bool). HoldsInfo (f.files s.drawer) s.replica.block.0 (Some h) b r.bytes) whole
    (subst (λ (o : Option ReplicaInfo). HoldsInfo (f.files s.drawer) s.replica.block.0 o s.replica.is_broken r.bytes) info
    (subst (λ (c : ReplicaRecord). HoldsInfo (f.files s.drawer) c.block.0 c.info c.is_broken r.bytes) same book.held.holds)))

-- So can what the files hold once the book was closed.
pub closed_found : {F : Type 0} (f : files.Ghosts F) (s : BookState F) (drawer : F) (block : BlockId) (h : ReplicaInfo) → IsBookOf f s → drawer ≡ s.drawer → block ≡ s.replica.block → s.replica.info ≡ Some h → s.replica.is_broken ≡ false
    → HoldsFound (f.files drawer) block h.original h.stamp h.sums
closed_found f s drawer block h book at of_block info whole =
    subst (λ d. HoldsFound (f.files d) block h.original h.stamp h.sums) (sym at) (subst (λ b. HoldsFound (f.files s.drawer) b h.original h.stamp h.sums) (sym of_block) (book_found f s h book info whole))
