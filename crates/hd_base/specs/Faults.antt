-- Counts of faults: how a fault is said to have a cause.
use Rattle.std.specs.Prelude.{◌≡◌, ℕ, ◌+◌, ◌-◌, ◌^◌, ◌≤◌, min, Bool, true, if◌then◌else◌, Option, option_map, IfSome, Result, OnErr, IsErr}

-- The count of faults has risen. A counter that stands at its greatest value counts as risen.
abbrev pub FaultsIncreased : ℕ → ℕ → Type 0
FaultsIncreased before now = min (before + 1) (2 ^ 64 - 1) ≤ now

-- What a lent object's count adds to its owner's when it comes back: the owner's count is then no less than the sum, or than the counter's greatest value.
pub record CarriesFaults (before more now : ℕ) : Type 0 where
  pub never_falls : before ≤ now
  pub counted : min (before + more) (2 ^ 64 - 1) ≤ now

-- The cause of a call whose every error is a fault: the count never falls, and an error comes only where it rose.
pub record HasCause {T E : Type 0} (before now : ℕ) (result : Result T E) : Type 0 where
  pub never_falls : before ≤ now
  pub failed : OnErr result (FaultsIncreased before now)

-- which of the calls to come are to fail: 0 is the next one
abbrev pub FaultSchedule : Type 0
FaultSchedule = ℕ → Bool

-- the schedule after one call
abbrev pub after_one_call : FaultSchedule → FaultSchedule
after_one_call schedule = λ k. schedule (k + 1)

-- Where the faults to come are observable, the call is the next one of the schedule: the count rises by one exactly where it is to fail, and then it doesn't succeed.
pub record FollowsSchedule {T E : Type 0} (old new : Option FaultSchedule) (before now : ℕ) (result : Result T E) :
    Type 0 where
  pub goes_on : new ≡ option_map after_one_call old
  pub counts : IfSome old (λ schedule. now ≡ before + (if schedule 0 then 1 else 0))
  pub fails : IfSome old (λ schedule. schedule 0 ≡ true → IsErr result)

-- A call that can't fail is none of the schedule, and leaves the count where the faults to come are observable.
pub record KeepsSchedule (old new : Option FaultSchedule) (before now : ℕ) : Type 0 where
  pub same : new ≡ old
  pub still : IfSome old (λ _. now ≡ before)
