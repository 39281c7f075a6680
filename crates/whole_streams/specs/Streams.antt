-- Words on what a whole run of reads or writes meets.
use Rattle.std.specs.Prelude.{◌≡◌, ℕ, ◌≤◌, false, List, length, take, Option, Some, None}
use Rattle.hd_base.specs.Faults.{FaultSchedule}
use Rattle.hd_base.specs.Streams.{Took, Wrote}

-- The faults to come are told, and no call to come is to fail.
abbrev pub NoneFails : Option FaultSchedule → Type 0
NoneFails None = ⊥
NoneFails (Some schedule) = (k : ℕ) → schedule k ≡ false

-- Where told, some bytes were taken, at most so many.
abbrev pub TookSome : Option (List ℕ) → Option (List ℕ) → ℕ → Type 0
TookSome old new most = (bytes : List ℕ) × (length bytes ≤ most) × Took old new bytes

-- Where told, a front of these bytes was put behind what had been written.
abbrev pub WroteFront : Option (List ℕ) → Option (List ℕ) → List ℕ → Type 0
WroteFront old new bytes = (n : ℕ) × (n ≤ length bytes) × Wrote old new (take n bytes)
