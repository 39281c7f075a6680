-- How a node's replica got past a stamp in a life of the node.
use Rattle.std.specs.Prelude.{ℕ, ◌≡◌, ◌<◌, ◌≤◌, slice_get, Option, Some}
use Rattle.hd_base.specs.declared.numbers.Stamp.{Stamp}
use Rattle.op_headers.specs.declared.ops.Op.TheVariants as op
use Rattle.op_headers.specs.declared.ops.RecoveryOp.{RecoveryOp}
use Rattle.op_headers.specs.Values.{WriteFields}
use Rattle.replica_core.specs.declared.info.ReplicaInfo.{ReplicaInfo}
use Rattle.world_recoveries.specs.World.Parts.{request, Place, Updated}
use Rattle.world_recoveries.specs.World.Worlds.{Past, World}
use Rattle.world_recoveries.specs.World.Nodes.{block_of}
use Rattle.world_recoveries.specs.World.Safe.{Has}
use Rattle.world_recoveries.specs.WorldLaws.Carrying.{new_stamp}
use Rattle.world_recoveries.specs.Recovering.{ReplicaTold, Informs}

-- A setup of the block was asked that names an earlier stamp, and is of this one or a later; or a recovery with this id
-- updated the replica in this life; or a recovery of the block has a later id, and names an earlier stamp.
pub data GotPast (h : Past) (b stamp : ℕ) (at : Place) : Type 0 where
  by_setup : (c : ℕ) (q : WriteFields) → slice_get (h.downs c) 0 ≡ Some (request (op.Write q)) → block_of q ≡ b →
      q.block.stamp.0 < stamp → stamp ≤ (new_stamp q).0 → GotPast h b stamp at
  by_update : (u : Updated) → Has h.updated u → u.node ≡ at.node → u.life ≡ at.life → u.block ≡ b →
      u.recovery ≡ stamp → GotPast h b stamp at
  by_recovery : (c : ℕ) (q : RecoveryOp) → slice_get (h.downs c) 0 ≡ Some (request (op.Recovery q)) →
      q.block.block.0 ≡ b → q.block.stamp.0 < stamp → stamp < q.recovery.0 → GotPast h b stamp at

-- so it got past each stamp from the one to the other
pub record Passes (h : Past) (b from to : ℕ) (at : Place) : Type 0 where
  pub each : (stamp : ℕ) → from < stamp → stamp ≤ to → GotPast h b stamp at

-- the replica is there, and got past each stamp from this one to its own
pub record PassesTo (h : Past) (b from : ℕ) (at : Place) (o : Option ReplicaInfo) : Type 0 where
  pub info : ReplicaInfo
  pub is : o ≡ Some info
  pub passes : Passes h b from info.stamp.0 at

-- In this life a node's replica got past each stamp from this one to its own, and to those that it told recoveries.
pub record PassesSince (w : World) (b stamp n life : ℕ) : Type 0 where
  pub now : w.lives n ≡ life → PassesTo w.past b stamp (record { node = n; life = life }) (w.replicas n b).known.info
  pub told : (c : ℕ) (id : Stamp) (i : ReplicaTold) → Informs w.past c b id i →
      (w.dialled c).to ≡ record { node = n; life = life } →
      Passes w.past b stamp i.1.0 (record { node = n; life = life })
