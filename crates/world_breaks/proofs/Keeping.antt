-- What each event of a replica keeps, as a fact of every replica of a world.
use Rattle.std.proofs.Common.{ℕ, Option, None}
use Rattle.replica_model.specs.declared.events.ReplicaEvent.{ReplicaEvent}
use Rattle.replica_model.specs.Found.{Found}
use Rattle.replica_model.specs.Rows.{FullReplica, IsFull, row}
use Rattle.world_laws.specs.World.Parts.{Break}
use Rattle.world_laws.specs.World.Restarts.{replica_found}
use Rattle.world_laws.specs.World.Worlds.{World, Change}
use Rattle.world_breaks.proofs.Calls.{ProperCall}

-- a fact of a replica of a block, and of its break
abbrev pub Fact : Type 1
Fact = ℕ → FullReplica → Option Break → Type 0

-- Events that are no failed calls on files keep it.
abbrev pub Rows : Fact → Type 0
Rows P = (b : ℕ) (r : FullReplica) (broke : Option Break) (e : ReplicaEvent) → ProperCall e → IsFull r → P b r broke → P b (row r e) broke

-- It holds of what is found.
abbrev pub Finds : Fact → Type 0
Finds P = (b : ℕ) (o : Option Found) → P b (replica_found b o) None

-- It holds of each replica of a world.
abbrev pub Every : Fact → World → Type 0
Every P w = (n b : ℕ) → P b (w.replicas n b) (w.breaks n b)

-- The same, and each has just the bytes that it has written.
pub record Held (P : Fact) (w : World) : Type 0 where
  pub full : (n b : ℕ) → IsFull (w.replicas n b)
  pub each : Every P w

-- It holds of the replica that a change leaves.
pub record Leaves (P : Fact) (k : Change) : Type 0 where
  pub whole : P k.block k.replica k.broke
