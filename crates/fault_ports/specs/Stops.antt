-- Which turn a call has, where files stop at one.
use Rattle.std.specs.Prelude.{◌≡◌, ℕ, ◌-◌, ◌<◌, ◌≤◌, Bool, true, false}
use Rattle.hd_base.specs.Faults.{FaultsIncreased}
use Rattle.fault_ports.specs.declared.stop_at.StopAt.{StopAt}
use Rattle.fault_ports.specs.declared.stop_at.Keep.{Keep}
use Rattle.fault_ports.specs.declared.stop_at.Turn.{Turn}
use Rattle.fault_ports.specs.declared.stop_at.Turn.TheVariants as turn

-- the files themselves
abbrev pub files_in : {F : Type 0} → StopAt F → F
files_in files = files.inner

-- how many calls are to pass
abbrev pub calls_left : {F : Type 0} → StopAt F → ℕ
calls_left files = files.left

-- what is to be kept of the call at which they stop
abbrev pub keep_of : {F : Type 0} → StopAt F → Keep
keep_of files = files.keep

-- they have stopped
abbrev pub has_stopped : {F : Type 0} → StopAt F → Bool
has_stopped files = files.stopped

-- the faults of their own
abbrev pub own_faults : {F : Type 0} → StopAt F → ℕ
own_faults files = files.faults

-- Which call it is: one that passes, the one at which the files stop, or a later one; the count of faults rises at all but the first kind.
abbrev pub TakesTurn : {F : Type 0} → StopAt F → StopAt F → Turn → Type 0
TakesTurn old new turn.Passes = (new ≡ record old { left = old.left - 1 }) × (old.stopped ≡ false) × (0 < old.left)
TakesTurn old new turn.Stops =
    (new ≡ record old { stopped = true; faults = new.faults }) × (old.stopped ≡ false) × (old.left ≡ 0)
    × (old.faults ≤ new.faults) × FaultsIncreased old.faults new.faults
TakesTurn old new turn.Late =
    (new ≡ record old { faults = new.faults }) × (old.stopped ≡ true)
    × (old.faults ≤ new.faults) × FaultsIncreased old.faults new.faults
