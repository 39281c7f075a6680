-- What writers hear keeps the connections of a play without failures.
use Rattle.std.specs.Prelude.{ℕ, ◌≡◌, List}
use Rattle.hd_base.specs.declared.numbers.ConnId.{ConnId}
use Rattle.world.specs.declared.events.Event.{Event}
use Rattle.world.specs.declared.events.Event.TheVariants as event
use Rattle.world.specs.Parts.{by_writer}
use Rattle.world.specs.Worlds.{start}
use Rattle.world.specs.Events.{run, happens}
use Rattle.play_model.specs.Laws.{IsQuiet}
use Rattle.play_completeness.specs.Plain.{ArePlain}
use Rattle.play_completeness.specs.Links.{Links}
use Rattle.play_completeness.specs.Writers.{Writers}

-- A writer takes what stands next on its connection.
abbrev pub WritersHear : Type 0
WritersHear = (nodes : ℕ) (events : List Event) (c : ConnId) (b : ℕ) → ArePlain events →
    IsQuiet (run (start nodes) events) → Links (run (start nodes) events) → Writers (run (start nodes) events) →
    ((run (start nodes) events).dialled c.0).upper ≡ by_writer b
    → Links (happens (run (start nodes) events) (event.Up c))
