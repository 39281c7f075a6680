-- When each call on files fails, and how.
use Rattle.std.specs.Prelude.{◌≡◌, ℕ, ◌≤◌, List, Option, None, IfSome, MatchOption, Result, IsErrOf}
use Rattle.hd_base.specs.Faults.{FaultsIncreased}
use Rattle.hd_base.specs.FileMaps.{FileMap}
use Rattle.hd_base.specs.declared.files.FileError.{FileError}
use Rattle.hd_base.specs.declared.files.FileError.TheVariants.{Absent, Failed, Memory}

-- A call that looks for a file: Failed only where the count rose; Absent exactly where the file isn't there, where observable, and else only where the count rose; never Memory.
pub record FileCause {T : Type 0} (files : Option FileMap) (name : List ℕ) (before now : ℕ)
    (result : Result T FileError) : Type 0 where
  pub never_falls : before ≤ now
  pub failed : IsErrOf result Failed → FaultsIncreased before now
  pub absent : IsErrOf result Absent → MatchOption files (FaultsIncreased before now) (λ m. m name ≡ None)
  pub not_there : IfSome files (λ m. m name ≡ None → IsErrOf result Absent)
  pub no_memory : IsErrOf result Memory → ⊥

-- A call that looks for no file and takes memory: Failed only where the count rose, Memory only where it didn't, never Absent.
pub record MemoryCause {T : Type 0} (before now : ℕ) (result : Result T FileError) : Type 0 where
  pub never_falls : before ≤ now
  pub failed : IsErrOf result Failed → FaultsIncreased before now
  pub out_of_memory : IsErrOf result Memory → now ≡ before
  pub no_absent : IsErrOf result Absent → ⊥

-- A call that looks for no file and takes no memory: Failed, and only where the count rose.
pub record FaultCause {T : Type 0} (before now : ℕ) (result : Result T FileError) : Type 0 where
  pub never_falls : before ≤ now
  pub failed : IsErrOf result Failed → FaultsIncreased before now
  pub no_absent : IsErrOf result Absent → ⊥
  pub no_memory : IsErrOf result Memory → ⊥
