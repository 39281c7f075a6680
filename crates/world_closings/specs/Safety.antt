-- The headline, of every world.
use Rattle.std.specs.Prelude.{ℕ, ◌≤◌, List}
use Rattle.hd_base.specs.declared.roads.TheConstants.{MAX_NODES}
use Rattle.world.specs.declared.events.Event.{Event}
use Rattle.world.specs.Worlds.{start}
use Rattle.world.specs.Events.{run}
use Rattle.world.specs.Safe.{Safe}

-- So it is after every list of events.
abbrev pub AllSafe : Type 0
AllSafe = (nodes : ℕ) (events : List Event) → nodes ≤ MAX_NODES → Safe (run (start nodes) events)
