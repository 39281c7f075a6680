-- The two models of what is left of files where the process stops or the power is lost.
use Rattle.std.specs.Prelude.{◌≡◌, ℕ, ◌<◌, ◌≤◌, List, length, slice_get, [], Option, Some, None, option_map, IfSome, IsSomeAnd}
use Rattle.hd_base.specs.FileMaps.{FileMap}
use Rattle.hd_base.specs.Calls.{Call, Log, run, stopped}
use Rattle.file_calls.specs.Disks.{DiskFile, disk_of}

-- What a stop of the process at any of these calls leaves: the calls before it are done, and of the call under way what may be done of one that failed.
abbrev pub Stopped : FileMap → List Call → FileMap → Type 0
Stopped start calls left = (k : ℕ) × (n : ℕ) × (left ≡ run (stopped k n calls) start)

-- What a loss of power may leave of a file: a length between the least and the greatest since its last sync, and each byte that is certain.
pub record MayBeLeft (file : DiskFile) (bytes : List ℕ) : Type 0 where
  pub least : file.least ≤ length bytes
  pub greatest : length bytes ≤ file.greatest
  pub certain : (i : ℕ) → i < length bytes → IfSome (file.certain i) (λ b. slice_get bytes i ≡ Some b)

-- the same of a name, with a file or without
abbrev pub MayStand : Option DiskFile → Option (List ℕ) → Type 0
MayStand None None = Unit {0}
MayStand None (Some bytes) = ⊥
MayStand (Some file) None = ⊥
MayStand (Some file) (Some bytes) = MayBeLeft file bytes

-- What a loss of power may leave after these calls, made on files that were wholly on the disk: each name as the calls left it, and of its file what may be left.
abbrev pub PowerLost : FileMap → List Call → FileMap → Type 0
PowerLost start calls left = (name : List ℕ) → MayStand (disk_of start calls name) (left name)

-- The same at any of these calls: of the one under way, a rename is done or not, and of a write any front.
abbrev pub PowerLostWithin : FileMap → List Call → FileMap → Type 0
PowerLostWithin start calls left = (k : ℕ) × (n : ℕ) × PowerLost start (stopped k n calls) left

-- Where the log is observable, the files are what a loss of power may leave after its calls.
abbrev pub LosesPower : Option Log → Option FileMap → Type 0
LosesPower log left = IfSome log (λ l. IsSomeAnd left (PowerLost l.start l.calls))

-- The log has no call, and began with these files.
abbrev pub BeginsLog : Option FileMap → Option Log → Type 0
BeginsLog files log = log ≡ option_map (λ m. record { start = m; calls = [] }) files
