-- What becomes of the roads in an event.
use Rattle.std.specs.Prelude.{◌≤◌, ℕ, Option}
use Rattle.hd_base.specs.Channels.{Plain}
use Rattle.hd_base.specs.Ends.{IsKnown}
use Rattle.hd_base.specs.declared.roads.Roads as roads
use Rattle.member_events.specs.declared.joining.MirrorDial.{MirrorDial}
use Rattle.member_events.specs.declared.joining.MirrorDial.TheVariants as dial

-- The roads know each connection that they knew, and their count of faults hasn't fallen.
pub record RoadsPass {R I O : Type 0} (r : roads.Ghosts R I O) (road road' : R) : Type 0 where
  pub knows : (c : ℕ) → IsKnown (r.plain road) c → IsKnown (r.plain road') c
  pub never_falls : r.faults road ≤ r.faults road'

-- The roads know the lower end of the connection to a mirror that was reached.
abbrev pub ReachedIsKnown : {I O : Type 0} → Option Plain → MirrorDial I O → Type 0
ReachedIsKnown plain (dial.Reached at_end) = IsKnown plain at_end.id.0
ReachedIsKnown plain other = Unit {0}
