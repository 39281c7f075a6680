-- Lists of calls that are made on files one after another.
use Rattle.std.specs.Prelude.{ℕ, ◌≡◌, ◌<◌, ◌≤◌, List, ◌++◌, Option, None, IfSome, Result, OnOk, OnErr, IsErrOf}
use Rattle.hd_base.specs.Faults.{HasCause, FaultsIncreased}
use Rattle.hd_base.specs.Calls.{Call, MakesCalls, StopsWithin}
use Rattle.hd_base.specs.declared.files.Files as files
use Rattle.hd_base.specs.declared.files.FileError.{FileError}
use Rattle.hd_base.specs.declared.files.FileError.TheVariants.{Absent, Failed, Memory}
use Rattle.hd_base.specs.FileMaps.{KeepsRoom}
use Rattle.file_calls.specs.Plans.{FindFiles, HasRoom}
use Rattle.replica_calls.specs.declared.names.FileNames.{FileNames}

-- The calls find their files, where observable, and have their room.
pub record IsReady {F : Type 0} (f : files.Ghosts F) (at : F) (calls : List Call) : Type 0 where
  pub found : IfSome (f.files at) (λ m. FindFiles m calls)
  pub enough : HasRoom (f.room at) calls

-- These calls were made, or one of them failed, which then was the last one: so the files are, where observable, and so the log. What stands behind them keeps its room.
pub record Performs {F T : Type 0} (f : files.Ghosts F) (old new : F) (calls : List Call) (result : Result T FileError)
    : Type 0 where
  pub done : OnOk result (MakesCalls (f.files old) (f.files new) (f.log old) (f.log new) calls)
  pub stopped : OnErr result (StopsWithin (f.files old) (f.files new) (f.log old) (f.log new) calls)
  pub cause : HasCause (f.faults old) (f.faults new) result
  pub absent : IsErrOf result Absent → f.files old ≡ None
  pub no_memory : IsErrOf result Memory → ⊥
  pub rest : OnOk result ((more : List Call) → HasRoom (f.room old) (calls ++ more) → HasRoom (f.room new) more)

-- Files and log are as they were, where observable, and each name has at least the room that it had.
pub record KeepsAll {F : Type 0} (f : files.Ghosts F) (old new : F) : Type 0 where
  pub same : f.files new ≡ f.files old
  pub log : f.log new ≡ f.log old
  pub room : KeepsRoom (f.room old) (f.room new)

-- The data file and the metadata file may have these lengths without memory.
pub record Covers (room : List ℕ → ℕ) (names : FileNames) (data_len meta_len : ℕ) : Type 0 where
  pub bytes : data_len < room names.«data»
  pub sums : meta_len < room names.meta

-- Calls that look for no file and may take memory: Failed only where the count rose, never Absent.
pub record RoomCause {T : Type 0} (before now : ℕ) (result : Result T FileError) : Type 0 where
  pub never_falls : before ≤ now
  pub failed : IsErrOf result Failed → FaultsIncreased before now
  pub no_absent : IsErrOf result Absent → ⊥
