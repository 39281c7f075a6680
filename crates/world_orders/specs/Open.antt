-- Whoever may still take from a connection hasn't taken its end.
use Rattle.std.specs.Prelude.{ℕ, ◌≡◌, Bool, true, false, List, Some}
use Rattle.world_laws.specs.MemberCore.Members.{hears}
use Rattle.world_laws.specs.World.Event.{Event}
use Rattle.world_laws.specs.World.Parts.{FullMember, Lower, writes, ended_below}
use Rattle.world_laws.specs.World.Worlds.{World, start}
use Rattle.world_laws.specs.World.Events.{run}

-- A lower end that may still take from above hasn't taken the end: a member may as long as its receiver acts, and any
-- other that hasn't ended.
abbrev pub IsOpenBelow : Lower → Bool → Type 0
IsOpenBelow (writes m) over = m.state.receives ≡ true → over ≡ false
IsOpenBelow ended_below over = Unit {0}
IsOpenBelow other over = over ≡ false

-- No lower end that may still take has taken the end, nor a member that hears its mirror, nor a writer of the connection
-- that it has.
pub record OpenEnds (w : World) : Type 0 where
  pub below : (c : ℕ) → IsOpenBelow (w.lowers c) (w.down_marks c).over
  pub mirrors : (d c : ℕ) (m : FullMember) → w.lowers d ≡ writes m → m.mirror ≡ Some c → hears m.state ≡ true →
      (w.up_marks c).over ≡ false
  pub writers : (b c : ℕ) → (w.writers b).conn ≡ Some c → (w.up_marks c).over ≡ false

-- So it is after every list of events.
abbrev pub AllOpen : Type 0
AllOpen = (nodes : ℕ) (events : List Event) → OpenEnds (run (start nodes) events)
