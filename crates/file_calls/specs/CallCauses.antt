-- What one call asks for, by its kind: its place in the file, the cause of its failure, and the room after it.
use Rattle.std.specs.Prelude.{ℕ, ◌⊎◌, List, Option, Result, MatchResult}
use Rattle.hd_base.specs.FileMaps.{FileMap, IsPlaceIn, KeepsRoom, CarriesRoom}
use Rattle.hd_base.specs.FileCauses.{FileCause, FaultCause}
use Rattle.hd_base.specs.Calls.{Call, Make, Write, Cut, Sync, Rename, Remove}
use Rattle.hd_base.specs.declared.files.FileError.{FileError}

-- Where observable, the place of a write or a cut is within its file.
abbrev pub HasPlaceFor : Option FileMap → Call → Type 0
HasPlaceFor files (Make name) = Unit {0}
HasPlaceFor files (Write name place bytes) = IsPlaceIn files name place
HasPlaceFor files (Cut name len) = IsPlaceIn files name len
HasPlaceFor files (Sync name) = Unit {0}
HasPlaceFor files (Rename from to) = Unit {0}
HasPlaceFor files (Remove name) = Unit {0}

-- How the call fails: each but a make looks for its file.
abbrev pub CauseOf : {T : Type 0} → Option FileMap → Call → ℕ → ℕ → Result T FileError → Type 0
CauseOf files (Make name) before now result = FaultCause before now result
CauseOf files (Write name place bytes) before now result = FileCause files name before now result
CauseOf files (Cut name len) before now result = FileCause files name before now result
CauseOf files (Sync name) before now result = FileCause files name before now result
CauseOf files (Rename from to) before now result = FileCause files from before now result
CauseOf files (Remove name) before now result = FileCause files name before now result

-- Each name keeps its room, but for a rename, which carries it.
abbrev pub RoomAfter : {T : Type 0} → (List ℕ → ℕ) → (List ℕ → ℕ) → Call → Result T FileError → Type 0
RoomAfter old new (Make name) result = KeepsRoom old new
RoomAfter old new (Write name place bytes) result = KeepsRoom old new
RoomAfter old new (Cut name len) result = KeepsRoom old new
RoomAfter old new (Sync name) result = KeepsRoom old new
RoomAfter old new (Rename from to) result =
    MatchResult result (λ _. CarriesRoom old new from to) (λ _. KeepsRoom old new ⊎ CarriesRoom old new from to)
RoomAfter old new (Remove name) result = KeepsRoom old new
