-- The sum of a replica's bytes.
use Rattle.std.specs.Prelude.{ℕ, ◌≡◌, ◌<◌, ◌≤◌, ◌↔◌, List, length, take, Option, IfSome, IsSome, Result, IsErrOf}
use Rattle.hd_base.specs.Bytes.{IsBytes}
use Rattle.hd_base.specs.Faults.{FaultsIncreased}
use Rattle.hd_base.specs.FileMaps.{FileMap, HasFile}
use Rattle.hd_base.specs.declared.files.Files as files
use Rattle.hd_base.specs.declared.files.FileError.{FileError}
use Rattle.hd_base.specs.declared.files.FileError.TheVariants as file_error
use Rattle.hd_base.specs.declared.sum_rule.SumKind.TheVariants as kind
use Rattle.chunk_sums.specs.Crc.{sum_of}
use Rattle.replica_model.specs.Rows.{FullReplica}
use Rattle.replica_calls.specs.Performed.{KeepsAll}
use Rattle.replica_files.specs.Laws.{IsWhole}
use Rattle.replica_files.specs.declared.book_state.BookState.{BookState}
use Rattle.replica_files.specs.declared.faults.SumFault.{SumFault}
use Rattle.replica_files.specs.declared.faults.SumFault.TheVariants as fault
use Rattle.replica_files.specs.declared.summing.Summed.{Summed}

-- There is a sum just where the replica is neither broken nor absent; where files are observable, it is the CRC32C of its bytes.
pub record SumsWritten (files : Option FileMap) (r : FullReplica) (sum : Option ℕ) : Type 0 where
  pub some : IsSome sum ↔ IsWhole r
  pub value : IfSome sum (λ s. IfSome files (λ _. s ≡ sum_of kind.Crc32c r.bytes))

-- All but the drawer is as it was, and so are its files; its count hasn't fallen.
pub record LeavesBook {F : Type 0} (f : files.Ghosts F) (old new : BookState F) : Type 0 where
  pub rest : new ≡ record old { drawer = new.drawer }
  pub drawer : KeepsAll f old.drawer new.drawer
  pub never_falls : f.faults old.drawer ≤ f.faults new.drawer

-- the fault of a failed call on files
abbrev pub sum_fault : FileError → SumFault
sum_fault file_error.Memory = fault.Memory
sum_fault file_error.Absent = fault.Files
sum_fault file_error.Failed = fault.Files

-- Files comes only where the count rose.
abbrev pub SumsFor : {T : Type 0} → ℕ → ℕ → Result T SumFault → Type 0
SumsFor before now result = IsErrOf result fault.Files → FaultsIncreased before now

-- Where observable, the file is there with these bytes, so many.
pub record IsFile (files : Option FileMap) (name : List ℕ) (len : ℕ) (bytes : List ℕ) : Type 0 where
  pub there : HasFile files name bytes
  pub all : length bytes ≡ len
  pub are_bytes : IsBytes bytes

-- Where the file is observable and has so many bytes, this is their CRC32C.
abbrev pub IsSumOf : Option FileMap → List ℕ → ℕ → ℕ → Type 0
IsSumOf files name len sum =
    (bytes : List ℕ) → IsFile files name len bytes → IfSome files (λ _. sum ≡ sum_of kind.Crc32c bytes)

-- Where files are observable, the sum is that of these bytes up to the place.
abbrev pub IsSumTo : Option FileMap → List ℕ → Summed → Type 0
IsSumTo files bytes s = IfSome files (λ _. s.sum ≡ sum_of kind.Crc32c (take s.place bytes))

-- The bytes up to the same place or a later one are summed; to a later one where files are observable and there are more bytes.
pub record SumsOn (files : Option FileMap) (name : List ℕ) (len : ℕ) (old new : Summed) : Type 0 where
  pub behind : old.place ≤ new.place
  pub within : new.place ≤ len
  pub sums : (bytes : List ℕ) → IsFile files name len bytes → IsSumTo files bytes old → IsSumTo files bytes new
  pub goes_on : (bytes : List ℕ) → IsFile files name len bytes →
      IfSome files (λ _. old.place < len → old.place < new.place)
