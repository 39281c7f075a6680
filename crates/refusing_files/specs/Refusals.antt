-- What the log of files tells that refuse the writes on data files.
use Rattle.std.specs.Prelude.{◌≡◌, ◌||◌, Bool, false, List, [], ◌∷◌, Option, Some}
use Rattle.hd_base.specs.Blocks.{is_data}
use Rattle.hd_base.specs.Calls.{Call, Make, Write, Cut, Sync, Rename, Remove, Log}
use Rattle.hd_base.specs.FileMaps.{FileMap}

-- the call is a write on a data file
abbrev pub is_data_write : Call → Bool
is_data_write (Make name) = false
is_data_write (Write name place bytes) = is_data name
is_data_write (Cut name len) = false
is_data_write (Sync name) = false
is_data_write (Rename from to) = false
is_data_write (Remove name) = false

-- one of the calls is
abbrev pub has_data_write : List Call → Bool
has_data_write [] = false
has_data_write (call ∷ calls) = is_data_write call || has_data_write calls

-- The call leaves all files as they are: it is a sync, or a write of nothing.
abbrev pub IsIdle : Call → Type 0
IsIdle (Make name) = ⊥
IsIdle (Write name place bytes) = bytes ≡ []
IsIdle (Cut name len) = ⊥
IsIdle (Sync name) = Unit {0}
IsIdle (Rename from to) = ⊥
IsIdle (Remove name) = ⊥

-- So does each of them.
abbrev pub AreIdle : List Call → Type 0
AreIdle [] = Unit {0}
AreIdle (call ∷ calls) = IsIdle call × AreIdle calls

-- All calls of the log leave the files as they are, which are as they were at its start; and a write on a data file stands
-- among them just where one was refused.
pub record TellsRefusals (refused : Bool) (files : Option FileMap) (l : Log) : Type 0 where
  pub as_before : files ≡ Some l.start
  pub idle : AreIdle l.calls
  pub marked : refused ≡ has_data_write l.calls
