-- Nothing comes up before something was sent down.
use Rattle.std.specs.Prelude.{ℕ, ◌≡◌, List, Some}
use Rattle.hd_base.specs.declared.numbers.Stamp.{Stamp}
use Rattle.writer_core.specs.declared.phases.Phase.TheVariants as phase
use Rattle.writer_core.specs.declared.phases.Setup.{Setup}
use Rattle.world.specs.declared.events.Event.{Event}
use Rattle.world.specs.Parts.{Message}
use Rattle.world.specs.Worlds.{start}
use Rattle.world.specs.Connections.{message, next_up}
use Rattle.world.specs.Events.{run}

-- Where the request of a writer's connection was accepted, and it has sent no packet yet, no message stands next for
-- it: nothing does, or the end. So it is after every list of events.
abbrev pub NothingEarly : Type 0
NothingEarly = (nodes : ℕ) (events : List Event) (b c : ℕ) (s : Setup) (stamp : Stamp) (m : Message) →
    ((run (start nodes) events).writers b).known.phase ≡ phase.Accepted s stamp →
    ((run (start nodes) events).writers b).conn ≡ Some c →
    next_up (run (start nodes) events) c ≡ Some (message m) → ⊥
