-- What is kept of a call at which files stop, and what a call that passes leaves.
use Rattle.std.specs.Prelude.{◌≡◌, ◌⊎◌, ℕ, ◌/◌, ◌-◌, Bool, false, List, [], ◌∷◌, length, take, Option}
use Rattle.hd_base.specs.Faults.{FaultsIncreased}
use Rattle.hd_base.specs.FileMaps.{FileMap, KeepsRoom, CarriesRoom}
use Rattle.hd_base.specs.Calls.{Call, Make, Write, Cut, Sync, Rename, Remove, Log, MakesCalls}
use Rattle.fault_ports.specs.declared.stop_at.Keep.{Keep}
use Rattle.fault_ports.specs.declared.stop_at.Keep.TheVariants as keep

-- the first half of a write, and nothing of another call
abbrev pub half_of : Call → List Call
half_of (Make name) = []
half_of (Write name place bytes) = Write name place (take (length bytes / 2) bytes) ∷ []
half_of (Cut name len) = []
half_of (Sync name) = []
half_of (Rename from to) = []
half_of (Remove name) = []

-- what is kept of the call at which the files stop
abbrev pub kept_of : Keep → Call → List Call
kept_of keep.Nothing call = []
kept_of keep.Half call = half_of call
kept_of keep.All call = call ∷ []

-- What was asked for is kept, and no more, unless the files failed by themselves.
abbrev pub KeepsAsked : Option FileMap → Option FileMap → Option Log → Option Log → List Call → ℕ → ℕ → Type 0
KeepsAsked old new before now kept faults faults_now =
    MakesCalls old new before now kept ⊎ FaultsIncreased faults faults_now

-- One call of those that are left has passed, and no fault was added.
pub record IsPassed (left faults now_left : ℕ) (stopped : Bool) (now_faults : ℕ) : Type 0 where
  pub one_less : now_left ≡ left - 1
  pub going : stopped ≡ false
  pub no_fault : now_faults ≡ faults

-- Each name keeps its room, but for a rename, which may carry it.
abbrev pub RoomAfterStop : (List ℕ → ℕ) → (List ℕ → ℕ) → Call → Type 0
RoomAfterStop old new (Make name) = KeepsRoom old new
RoomAfterStop old new (Write name place bytes) = KeepsRoom old new
RoomAfterStop old new (Cut name len) = KeepsRoom old new
RoomAfterStop old new (Sync name) = KeepsRoom old new
RoomAfterStop old new (Rename from to) = KeepsRoom old new ⊎ CarriesRoom old new from to
RoomAfterStop old new (Remove name) = KeepsRoom old new
