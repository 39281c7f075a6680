-- Which bytes of a file every loss of power leaves, and which calls keep that so.
use Rattle.std.specs.Prelude.{◌≡◌, ◌⊎◌, ℕ, ◌<◌, ◌≤◌, true, false, cond, List, [], ◌∷◌, ◌++◌, take, length, slice_get, Option, Some, IfSome, IsSomeAnd}
use Rattle.std.specs.Str.{bytes_eq}
use Rattle.hd_base.specs.FileMaps.{FileMap}
use Rattle.hd_base.specs.Calls.{Call, Make, Write, Cut, Sync, Rename, Remove, Log, run, stopped}
use Rattle.file_calls.specs.Disks.{DiskFile, disk_of}
use Rattle.file_calls.specs.Losses.{PowerLost}

-- The first k bytes of the file are these: readers see them, and every loss of power leaves them.
pub record IsDurable (k : ℕ) (bytes : List ℕ) (file : DiskFile) : Type 0 where
  pub least : k ≤ file.least
  pub long : k ≤ length file.bytes
  pub seen : (i : ℕ) → i < k → slice_get file.bytes i ≡ slice_get bytes i
  pub certain : (i : ℕ) → i < k → file.certain i ≡ slice_get bytes i

-- The call leaves the first k bytes of the file of this name: it doesn't make, replace or remove it, writes past them and cuts behind them.
abbrev pub Spares : ℕ → List ℕ → Call → Type 0
Spares k name (Make q) = bytes_eq q name ≡ false
Spares k name (Write q place bytes) = bytes_eq q name ≡ true → k ≤ place
Spares k name (Cut q len) = bytes_eq q name ≡ true → k ≤ len
Spares k name (Sync q) = Unit {0}
Spares k name (Rename from to) = bytes_eq from name ≡ false → bytes_eq to name ≡ false
Spares k name (Remove q) = bytes_eq q name ≡ false

-- the name that a file has after a call
abbrev pub name_after_call : Call → List ℕ → List ℕ
name_after_call (Make q) name = name
name_after_call (Write q place bytes) name = name
name_after_call (Cut q len) name = name
name_after_call (Sync q) name = name
name_after_call (Rename from to) name = cond (bytes_eq from name) to name
name_after_call (Remove q) name = name

-- the name that a file has after some calls
abbrev pub name_after : List Call → List ℕ → List ℕ
name_after [] name = name
name_after (call ∷ calls) name = name_after calls (name_after_call call name)

-- Each of the calls leaves the first k bytes of the file of this name, which a rename may carry to another.
abbrev pub AllSpare : ℕ → List ℕ → List Call → Type 0
AllSpare k name [] = Unit {0}
AllSpare k name (call ∷ calls) = Spares k name call × AllSpare k (name_after_call call name) calls

-- no call gives the file of this name another
abbrev pub KeepName : List ℕ → List Call → Type 0
KeepName name [] = Unit {0}
KeepName name (call ∷ calls) = (name_after_call call name ≡ name) × KeepName name calls

-- The calls keep the file's name, or one of them gives it the other name and those behind that keep it.
abbrev pub KeepNameOr : List ℕ → List ℕ → List Call → Type 0
KeepNameOr name other [] = Unit {0}
KeepNameOr name other (call ∷ calls) =
    ((name_after_call call name ≡ name) × KeepNameOr name other calls)
    ⊎ ((name_after_call call name ≡ other) × KeepName other calls)

-- There is a file of this name, and its first k bytes are durable as these.
abbrev pub HasDurable : ℕ → List ℕ → Option DiskFile → Type 0
HasDurable k bytes file = IsSomeAnd file (IsDurable k bytes)

-- Where the log is observable, every loss of power leaves these first k bytes of the file.
abbrev pub IsDurableIn : Option Log → List ℕ → ℕ → List ℕ → Type 0
IsDurableIn log name k bytes = IfSome log (λ l. HasDurable k bytes (disk_of l.start l.calls name))

-- Where files and log are observable, every loss of power leaves all bytes of the file, if it is there.
abbrev pub IsWhollyDurable : Option FileMap → Option Log → List ℕ → Type 0
IsWhollyDurable files log name =
    IfSome files (λ m. (bytes : List ℕ) → m name ≡ Some bytes → IsDurableIn log name (length bytes) bytes)

-- The file is there, and its first k bytes are these.
abbrev pub HasFront : FileMap → List ℕ → ℕ → List ℕ → Type 0
HasFront left name k bytes = IsSomeAnd (left name) (λ b. take k b ≡ take k bytes)

-- What was written and synced stays. Where two files hold these bytes, are synced, and the calls after that leave the first k bytes of the one and the first m of the other, every loss of power at any of these calls leaves both fronts, each under the name that its file then has.
abbrev pub SyncedStays : Type 0
SyncedStays =
    (start left : FileMap) (before more : List Call) (data_name sums_name bytes sums : List ℕ) (k m i n : ℕ) →
    run before start data_name ≡ Some bytes → run before start sums_name ≡ Some sums →
    k ≤ length bytes → m ≤ length sums →
    AllSpare k data_name more → AllSpare m sums_name more →
    PowerLost start (before ++ Sync data_name ∷ Sync sums_name ∷ stopped i n more) left →
    HasFront left (name_after (stopped i n more) data_name) k bytes
    × HasFront left (name_after (stopped i n more) sums_name) m sums
