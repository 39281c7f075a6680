-- What a cut makes of a play.
use Rattle.std.specs.Prelude.{◌≡◌, ℕ, List, ◌++◌, [], ◌∷◌, Result, Ok, Err}
use Rattle.hd_base.specs.declared.links.LinkIn as link_in
use Rattle.hd_base.specs.declared.links.LinkOut as link_out
use Rattle.hd_base.specs.declared.numbers.ConnId.{ConnId}
use Rattle.hd_base.specs.declared.roads.Roads as roads
use Rattle.world.specs.declared.events.Direction.TheVariants as direction
use Rattle.world.specs.declared.events.Event.{Event}
use Rattle.world.specs.declared.events.Event.TheVariants as event
use Rattle.play_model.specs.Dues.{Queues}
use Rattle.play.specs.declared.faults.PlayFault.{PlayFault}
use Rattle.play.specs.declared.faults.PlayFault.TheVariants as fault
use Rattle.play.specs.declared.player.Player.{Player}
use Rattle.play.specs.Standing.{PlayStands}

-- what is on its way on a connection is lost, behind so many messages down, and up
abbrev pub losses : ConnId → ℕ → ℕ → List Event
losses conn down up = event.Lost conn direction.Down down ∷ (event.Lost conn direction.Up up ∷ [])

-- The losses stand behind the events, and the player shows the world after them; all else is as it was.
pub record HasCut {F R I O : Type 0} (r : roads.Ghosts R I O) (i : link_in.Ghosts I) (o : link_out.Ghosts O)
    (nodes : ℕ) (queues : Queues) (conn : ConnId) (down up : ℕ) (old new : Player F I O) (road : R) : Type 0 where
  pub stands : PlayStands r i o nodes queues road new
  pub same : new ≡ record old { events = new.events }
  pub events : new.events.items ≡ old.events.items ++ losses conn down up

abbrev pub CutEnds : {F R I O : Type 0} → roads.Ghosts R I O → link_in.Ghosts I → link_out.Ghosts O → ℕ → Queues →
    ConnId → ℕ → ℕ → Player F I O → Player F I O → R → Result (Unit {0}) PlayFault → Type 0
CutEnds r i o nodes queues conn down up old new road' (Ok u) = HasCut r i o nodes queues conn down up old new road'
CutEnds r i o nodes queues conn down up old new road' (Err why) = why ≡ fault.Memory

-- A connection is cut, or memory ran out.
abbrev pub CutShows : {F R I O : Type 0} → roads.Ghosts R I O → link_in.Ghosts I → link_out.Ghosts O → ConnId → ℕ → ℕ →
    Player F I O → Player F I O → R → R → Result (Unit {0}) PlayFault → Type 0
CutShows r i o conn down up old new road road' result =
    (nodes : ℕ) (queues : Queues) → PlayStands r i o nodes queues road old
    → CutEnds r i o nodes queues conn down up old new road' result
