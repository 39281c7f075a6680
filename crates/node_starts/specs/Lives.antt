-- In which life of its node a connection was dialled.
use Rattle.std.specs.Prelude.{ℕ, ◌<◌, ◌≤◌, List}
use Rattle.world.specs.declared.events.Event.{Event}
use Rattle.world.specs.Events.{run}
use Rattle.world.specs.Worlds.{World, start}

-- Each connection was dialled in a life of its node that has begun.
abbrev pub IsLived : World → Type 0
IsLived w = (c : ℕ) → c < w.next_conn → (w.dialled c).to.life ≤ w.lives (w.dialled c).to.node

-- after every list of events
abbrev pub DialsAreLived : Type 0
DialsAreLived = (nodes : ℕ) (events : List Event) → IsLived (run (start nodes) events)
