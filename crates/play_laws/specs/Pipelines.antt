-- The members of pipelines.
use Rattle.std.specs.Prelude.{ℕ, ◌≡◌, ◌<◌, List}
use Rattle.world.specs.declared.events.Event.{Event}
use Rattle.world.specs.Parts.{by_member}
use Rattle.world.specs.Worlds.{World, start}
use Rattle.world.specs.Events.{run}
use Rattle.world_orders.specs.Orders.{purpose_of, pipeline}

-- Whoever dialled a mirror has its request on a connection of a pipeline.
abbrev pub MembersArePiped : World → Type 0
MembersArePiped w = (c d : ℕ) → c < w.next_conn → (w.dialled c).upper ≡ by_member d
    → purpose_of (w.dialled d).upper ≡ pipeline

-- So it is after every list of events.
abbrev pub AllArePiped : Type 0
AllArePiped = (nodes : ℕ) (events : List Event) → MembersArePiped (run (start nodes) events)
