-- When each call on roads fails, and how.
use Rattle.std.specs.Prelude.{◌≡◌, ℕ, ◌≤◌, false, Option, IfSome, Result, IsErrOf}
use Rattle.hd_base.specs.Faults.{FaultsIncreased}
use Rattle.hd_base.specs.Channels.{Plain}
use Rattle.hd_base.specs.declared.ends.RoadError.{RoadError}
use Rattle.hd_base.specs.declared.ends.RoadError.TheVariants.{NotListening, Failed, Memory}

-- A call that dials nobody: Failed only where the count rose, Memory only where it didn't, never NotListening.
pub record RoadCause {T : Type 0} (before now : ℕ) (result : Result T RoadError) : Type 0 where
  pub never_falls : before ≤ now
  pub failed : IsErrOf result Failed → FaultsIncreased before now
  pub out_of_memory : IsErrOf result Memory → now ≡ before
  pub no_dial : IsErrOf result NotListening → ⊥

-- A dial: Failed only where the count rose, Memory only where it didn't; NotListening exactly where the ports are observable and nobody listens on this one.
pub record DialCause {T : Type 0} (plain : Option Plain) (port before now : ℕ) (result : Result T RoadError) : Type 0
  where
    pub never_falls : before ≤ now
    pub failed : IsErrOf result Failed → FaultsIncreased before now
    pub out_of_memory : IsErrOf result Memory → now ≡ before
    pub nobody : IfSome plain (λ p. p.listening port ≡ false → IsErrOf result NotListening)
    pub not_listening : IsErrOf result NotListening → IfSome plain (λ p. p.listening port ≡ false)

-- A call whose only error is want of memory, which leaves the count.
pub record OnlyMemory {T : Type 0} (before now : ℕ) (result : Result T RoadError) : Type 0 where
  pub never_falls : before ≤ now
  pub out_of_memory : IsErrOf result Memory → now ≡ before
  pub no_failure : IsErrOf result Failed → ⊥
  pub no_dial : IsErrOf result NotListening → ⊥
