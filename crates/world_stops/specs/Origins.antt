-- From which node a connection was dialled.
use Rattle.std.specs.Prelude.{ℕ, ◌≡◌, ◌<◌, List, Option, Some, None}
use Rattle.world_laws.specs.World.Event.{Event}
use Rattle.world_laws.specs.World.Parts.{Upper, by_writer, by_member, by_reader, by_primary, Place, Dialled}
use Rattle.world_laws.specs.World.Worlds.{World, start}
use Rattle.world_laws.specs.World.Events.{run}

-- A writer and a reader dial from no node, and a member from its own, in the life in which it took its request.
abbrev pub IsFrom : (ℕ → Dialled) → Upper → Option Place → Type 0
IsFrom dialled (by_writer b) from = from ≡ None
IsFrom dialled (by_member c) from = from ≡ Some (dialled c).to
IsFrom dialled (by_reader i) from = from ≡ None
IsFrom dialled (by_primary i place) from = Unit {0}

-- So it is of each connection that was dialled.
abbrev pub AllAreFrom : World → Type 0
AllAreFrom w = (c : ℕ) → c < w.next_conn → IsFrom w.dialled (w.dialled c).upper (w.dialled c).from

-- after every list of events
abbrev pub DialsHaveOrigins : Type 0
DialsHaveOrigins = (nodes : ℕ) (events : List Event) → AllAreFrom (run (start nodes) events)
