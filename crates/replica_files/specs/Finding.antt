-- Books of what a restart found.
use Rattle.std.specs.Prelude.{ℕ, ◌≡◌, ◌≤◌, List, [], length, Option, IfSome, Result, IsErrOf}
use Rattle.hd_base.specs.FileMaps.{FileMap}
use Rattle.hd_base.specs.SumRules.{Rule}
use Rattle.hd_base.specs.declared.numbers.BlockId.{BlockId}
use Rattle.hd_base.specs.declared.numbers.Stamp.{Stamp}
use Rattle.hd_base.specs.declared.states.ReplicaState.{ReplicaState}
use Rattle.hd_base.specs.declared.files.Files as files
use Rattle.hd_base.specs.Faults.{FaultsIncreased}
use Rattle.block_files.specs.Placements.{files_of}
use Rattle.replica_core.specs.Info.{settled_at}
use Rattle.replica_model.specs.declared.histories.Start.TheVariants as start
use Rattle.replica_model.specs.Plans.{placed_info}
use Rattle.hd_base.specs.declared.files.FileError.{FileError}
use Rattle.hd_base.specs.declared.files.FileError.TheVariants as file_error
use Rattle.replica_files.specs.declared.faults.FoundFault.{FoundFault}
use Rattle.replica_files.specs.declared.faults.FoundFault.TheVariants as found
use Rattle.replica_files.specs.declared.book_state.BookState.{BookState}

-- The files hold such a replica with these bytes.
abbrev pub HoldsBytes : FileMap → BlockId → ReplicaState → Stamp → Rule → List ℕ → Type 0
HoldsBytes m block state stamp rule bytes =
    m ≡ files_of block.0 (placed_info (settled_at state stamp rule (length bytes)) bytes)

-- Where observable, the files hold such a replica.
abbrev pub HoldsFound : Option FileMap → BlockId → ReplicaState → Stamp → Rule → Type 0
HoldsFound files block state stamp rule = IfSome files (λ m. (bytes : List ℕ) ×
    HoldsBytes m block state stamp rule bytes)

-- The book of such a replica without entries; where files are observable, its bytes are those of the files.
pub record IsFound {F : Type 0} (f : files.Ghosts F) (s : BookState F) (block : BlockId) (state : ReplicaState)
    (stamp : Stamp) (rule : Rule) (drawer : F) : Type 0 where
  pub bytes : List ℕ
  pub of_block : s.block ≡ block
  pub start : s.history.start ≡ start.Found state stamp rule bytes
  pub entries : s.history.entries.items ≡ []
  pub files : f.files s.drawer ≡ f.files drawer
  pub log : f.log s.drawer ≡ f.log drawer
  pub held : IfSome (f.files drawer) (λ m. HoldsBytes m block state stamp rule bytes)

-- the fault of a failed call on files
abbrev pub found_fault : FileError → FoundFault
found_fault file_error.Memory = found.Memory
found_fault file_error.Absent = found.File
found_fault file_error.Failed = found.File

-- Calls that may take memory: any other error only where the count rose.
pub record FailsFor {T : Type 0} (before now : ℕ) (result : Result T FileError) : Type 0 where
  pub never_falls : before ≤ now
  pub absent : IsErrOf result file_error.Absent → FaultsIncreased before now
  pub failed : IsErrOf result file_error.Failed → FaultsIncreased before now

-- File comes only where the count rose.
pub record FindsFor {T : Type 0} (before now : ℕ) (result : Result T FoundFault) : Type 0 where
  pub never_falls : before ≤ now
  pub file : IsErrOf result found.File → FaultsIncreased before now

-- The drawer comes back with its files as they were, and File only where its count rose.
pub record GivesBack {F : Type 0} (f : files.Ghosts F) (old new : F) (why : FoundFault) : Type 0 where
  pub files : f.files new ≡ f.files old
  pub log : f.log new ≡ f.log old
  pub file : why ≡ found.File → FaultsIncreased (f.faults old) (f.faults new)
