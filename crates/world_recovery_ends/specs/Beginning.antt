-- A primary that the office has told begins at each node that runs.
use Rattle.std.specs.Prelude.{ℕ, ◌≡◌, Bool, true, List}
use Rattle.hd_base.specs.declared.numbers.BlockId.{BlockId}
use Rattle.hd_base.specs.declared.numbers.NodeId.{NodeId}
use Rattle.world.specs.declared.events.Event.{Event}
use Rattle.world.specs.declared.events.Event.TheVariants as event
use Rattle.world.specs.declared.events.OwnStep.TheVariants as own
use Rattle.world.specs.Parts.{Told, was_told}
use Rattle.world.specs.Worlds.{World, start}
use Rattle.world.specs.Clients.{are_members}
use Rattle.world.specs.Events.{is_enabled, run}

-- Whichever node runs, whatever members there are, and whichever dials are answered, its first step may come.
abbrev pub MayBegin : World → ℕ → BlockId → Type 0
MayBegin w i block = (node : NodeId) (members : List NodeId) (answers : List Bool) → w.running node.0 ≡ true →
    are_members members ≡ true → is_enabled w (event.Own (own.Recover i node block members answers)) ≡ true

-- So it is of each primary that was told what the office answers to its beginning, after every list of events.
abbrev pub AllMayBegin : Type 0
AllMayBegin = (nodes : ℕ) (events : List Event) (i : ℕ) (block : BlockId) (told : Told) →
    (run (start nodes) events).primaries i ≡ was_told block told → MayBegin (run (start nodes) events) i block
