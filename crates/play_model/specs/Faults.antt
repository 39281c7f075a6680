-- Writes on data files that fail, and what befalls then in the place of what is due.
use Rattle.std.specs.Prelude.{zero, suc, ℕ, if◌then◌else◌, List, [], ◌∷◌, ◌++◌, Option, Some, None}
use Rattle.world_laws.specs.World.Delivery.TheVariants as delivery
use Rattle.world_laws.specs.World.Event.{Event}
use Rattle.world_laws.specs.World.Event.TheVariants as event
use Rattle.world_laws.specs.World.Nodes.{node_of}
use Rattle.world_laws.specs.World.Worlds.{World, put}
use Rattle.world_writes.specs.Writes.{grows}
use Rattle.play_model.specs.declared.dues.Due.{Due}
use Rattle.play_model.specs.declared.dues.Due.TheVariants as due
use Rattle.play_model.specs.States.{PlayState, world_of}
use Rattle.play_model.specs.Dues.{Queues, due_events, queues_after}

-- by node which of the writes on a data file that come there fails, 0 where none does
abbrev pub Faults : Type 0
Faults = ℕ → ℕ

-- the node at which what is due writes on a data file, if it does: a replica grows there
abbrev pub write_node : World → Due → Option ℕ
write_node w (due.Down c) = if grows w c.0 then Some (node_of w c.0) else None
write_node w other = None

-- which of the writes that come there is to fail, 0 where none is, or nothing is written
abbrev pub number_at : Faults → Option ℕ → ℕ
number_at faults None = 0
number_at faults (Some n) = faults n

-- the event in which the write fails
abbrev pub failed_events : Due → List Event
failed_events (due.Down c) = event.Fault (delivery.Down c) ∷ []
failed_events other = []

-- With 1 it is this write.
abbrev pub events_with : ℕ → World → Queues → Due → List Event
events_with (suc zero) w queues d = failed_events d
events_with other w queues d = due_events w queues d

-- The number runs down with the write.
abbrev pub run_down : ℕ → Option ℕ → Faults → Faults
run_down (suc left) (Some n) faults = put faults n left
run_down other _ faults = faults

abbrev pub befall_events : World → Queues → Faults → Due → List Event
befall_events w queues faults d = events_with (number_at faults (write_node w d)) w queues d

abbrev pub befall_faults : World → Faults → Due → Faults
befall_faults w faults d = run_down (number_at faults (write_node w d)) (write_node w d) faults

-- The play once this befell, which was due: it has happened, unless a write failed in it.
unfoldable pub befalls : PlayState → Due → PlayState
befalls p d = record p {
  events = p.events ++ befall_events (world_of p) p.queues p.faults d;
  queues = queues_after (world_of p) p.queues d;
  faults = befall_faults (world_of p) p.faults d;
}
