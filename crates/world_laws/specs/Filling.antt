-- Every replica has just the bytes that it has written.
use Rattle.std.specs.Prelude.{ℕ, ◌≡◌, List, IfSome}
use Rattle.world.specs.ReplicaModel.Rows.{FullReplica, IsFull, IsWithBytes}
use Rattle.world.specs.declared.events.Event.{Event}
use Rattle.world.specs.Parts.{Break}
use Rattle.world.specs.Worlds.{World, start}
use Rattle.world.specs.Events.{run}

-- a replica of this block, sound, with just the bytes that are written
pub record IsStored (block : ℕ) (r : FullReplica) : Type 0 where
  pub full : IsFull r
  pub block_is : r.known.block ≡ record { 0 = block }

-- a replica broke in an event, before which it was such a one
pub record IsBreak (x : Break) : Type 0 where
  pub before : IsFull x.before
  pub event : IsWithBytes x.event

-- Every replica is such a one, and was before it broke.
pub record Filled (w : World) : Type 0 where
  pub replicas : (node block : ℕ) → IsStored block (w.replicas node block)
  pub breaks : (node block : ℕ) → IfSome (w.breaks node block) IsBreak

-- So it is after every list of events.
abbrev pub AllFilled : Type 0
AllFilled = (nodes : ℕ) (events : List Event) → Filled (run (start nodes) events)
