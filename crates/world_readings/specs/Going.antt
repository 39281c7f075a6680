-- A reader that has begun and has no result goes on.
use Rattle.std.specs.Prelude.{ℕ, ◌≡◌, true, List}
use Rattle.read_core.specs.Readings.{ReadingState}
use Rattle.read_core.specs.Servings.{ServingState}
use Rattle.world.specs.declared.events.Event.{Event}
use Rattle.world.specs.Parts.{idle, serves, reads}
use Rattle.world.specs.Worlds.{World, start}
use Rattle.world.specs.Enabled.{can_down, can_ready, can_up}
use Rattle.world.specs.Events.{run}

-- On a reader's connection the reader may take what stands next, the node the request or the end, or the node may send.
pub data GoesOn (w : World) (c : ℕ) : Type 0 where
  takes : can_up w c ≡ true → GoesOn w c
  begins : w.lowers c ≡ idle → can_down w c ≡ true → GoesOn w c
  sends : (b : ℕ) (s : ServingState) → w.lowers c ≡ serves b s → can_ready w c ≡ true → GoesOn w c

-- So it is of each reader that reads over a connection, after every list of events.
abbrev pub AllGoOn : Type 0
AllGoOn = (nodes : ℕ) (events : List Event) (i c : ℕ) (s : ReadingState) →
    (run (start nodes) events).readers i ≡ reads c s → GoesOn (run (start nodes) events) c
