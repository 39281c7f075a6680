-- What is told anew from one world to a later one.
use Rattle.std.specs.Prelude.{ℕ, ◌≡◌, ◌<◌, ◌⊎◌, Bool, true, false, Some}
use Rattle.hd_base.specs.declared.numbers.Stamp.{Stamp}
use Rattle.replica_core.specs.declared.info.ReplicaInfo.{ReplicaInfo}
use Rattle.world_laws.specs.ReplicaModel.Rows.{FullReplica}
use Rattle.world_laws.specs.World.Parts.{Place}
use Rattle.world_laws.specs.World.Worlds.{Past, World}
use Rattle.world_recoveries.specs.Recovering.{ReplicaTold, top_of, Informs}

-- This is told of a replica that isn't broken, to a recovery whose id is above its stamp, and above that of the one
-- that holds it.
pub record IsOf (r : FullReplica) (id : Stamp) (i : ReplicaTold) : Type 0 where
  pub info : ReplicaInfo
  pub is : r.known.info ≡ Some info
  pub sound : r.known.is_broken ≡ false
  pub told : i ≡ (info.original, info.stamp, info.written)
  pub below : top_of info < id.0

-- This is told by a node in the life in which it runs, of the replica that it has.
pub record TellsNow (running : ℕ → Bool) (lives : ℕ → ℕ) (replicas : ℕ → ℕ →
    FullReplica) (at : Place) (b : ℕ) (id : Stamp) (i : ReplicaTold) : Type 0 where
  pub runs : running at.node ≡ true
  pub life : at.life ≡ lives at.node
  pub replica : IsOf (replicas at.node b) id i

-- What was told until a later world was told before, or it is told of a replica of the earlier one.
pub record Tells (h : Past) (running : ℕ → Bool) (lives : ℕ → ℕ) (replicas : ℕ → ℕ →
    FullReplica) (p : Past) : Type 0 where
  pub each : (c b : ℕ) (id : Stamp) (i : ReplicaTold) → Informs p c b id i →
      Informs h c b id i ⊎ TellsNow running lives replicas (p.dialled c).to b id i

abbrev pub TellsFrom : World → World → Type 0
TellsFrom w v = Tells w.past w.running w.lives w.replicas v.past
