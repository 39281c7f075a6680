-- No replica has more bytes than a block may have.
use Rattle.std.specs.Prelude.{ℕ, ◌≤◌, List, length}
use Rattle.world_laws.specs.PacketStream.TheConstants.{BLOCK_LIMIT}
use Rattle.world.specs.declared.events.Event.{Event}
use Rattle.world.specs.Worlds.{World, start}
use Rattle.world.specs.Events.{run}

-- Each replica of a world has no more bytes.
abbrev pub AreLimited : World → Type 0
AreLimited w = (node block : ℕ) → length (w.replicas node block).bytes ≤ BLOCK_LIMIT

-- So it is after every list of events.
abbrev pub AllLimited : Type 0
AllLimited = (nodes : ℕ) (events : List Event) → AreLimited (run (start nodes) events)
