-- How many stamps the office has given.
use Rattle.std.specs.Prelude.{ℕ, ◌≤◌, ◌+◌, List, length}
use Rattle.name_core.specs.declared.office.TheConstants.{FIRST_STAMP}
use Rattle.world.specs.declared.events.Event.{Event}
use Rattle.world.specs.Worlds.{start}
use Rattle.world.specs.Events.{run}

-- no more than there are events
abbrev pub StampsAreFew : Type 0
StampsAreFew = (nodes : ℕ) (events : List Event) → (run (start nodes) events).office.next.0 ≤ FIRST_STAMP + length events
