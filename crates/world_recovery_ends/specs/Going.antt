-- A primary that leads at a node that lives on goes on.
use Rattle.std.specs.Prelude.{ℕ, ◌≡◌, ◌<◌, Bool, true, false, List}
use Rattle.world.specs.declared.events.Event.{Event}
use Rattle.world.specs.Parts.{Lower, idle, recovers, by_primary, leads, Leading}
use Rattle.world.specs.Worlds.{World, start}
use Rattle.world.specs.Connections.{is_alive}
use Rattle.world.specs.Enabled.{can_down, can_lead, can_up, primary_has_asked}
use Rattle.world.specs.Events.{run}

-- The primary of this number dialled the connection, for the member at a place of its list.
pub record IsOf (w : World) (i c : ℕ) : Type 0 where
  pub known : c < w.next_conn
  pub place : ℕ
  pub upper : (w.dialled c).upper ≡ by_primary i place

-- the lower end takes the first request of a recovery next, or a further one
abbrev pub takes_request : Lower → Bool
takes_request idle = true
takes_request recovers = true
takes_request other = false

-- The primary may take what stands next on one of its connections, or the member's node there; or it may take a step of
-- its own; or the office may answer it.
pub data GoesOn (w : World) (i : ℕ) : Type 0 where
  hears : (c : ℕ) → IsOf w i c → can_up w c ≡ true → GoesOn w i
  answers : (c : ℕ) → IsOf w i c → takes_request (w.lowers c) ≡ true → can_down w c ≡ true → GoesOn w i
  steps : can_lead w i ≡ true → GoesOn w i
  asks : primary_has_asked (w.primaries i) w ≡ true → GoesOn w i

-- So it is of each primary that leads at a node that runs in that life, after every list of events.
abbrev pub AllGoOn : Type 0
AllGoOn = (nodes : ℕ) (events : List Event) (i : ℕ) (l : Leading) → (run (start nodes) events).primaries i ≡ leads l →
    is_alive (run (start nodes) events) l.at ≡ true → GoesOn (run (start nodes) events) i
