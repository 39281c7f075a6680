-- FINALIZED replicas, and what follows for them from an event.
use Rattle.std.specs.Prelude.{ℕ, ◌≡◌, ◌<◌, ◌⊎◌, false, List, slice_get, Option, Some, IfSome}
use Rattle.hd_base.specs.declared.states.ReplicaState.TheVariants as state
use Rattle.op_headers.specs.declared.nodes.NodeRef.{NodeRef}
use Rattle.op_headers.specs.declared.ops.Op.TheVariants as op
use Rattle.op_headers.specs.Values.{WriteFields}
use Rattle.replica_core.specs.declared.info.ReplicaInfo.{ReplicaInfo}
use Rattle.replica_model.specs.Plans.{plan, has_changing}
use Rattle.member_core.specs.declared.requests.SetupKind.TheVariants as kind
use Rattle.member_core.specs.Requests.{setup_with}
use Rattle.world_recoveries.specs.World.Event.{Event}
use Rattle.world_recoveries.specs.World.Parts.{request, Lower, idle, Break}
use Rattle.world_recoveries.specs.World.Worlds.{Past, World, start}
use Rattle.world_recoveries.specs.World.Nodes.{node_on, block_of}
use Rattle.world_recoveries.specs.World.Events.{happens, run}
use Rattle.world_recoveries.specs.WorldLaws.Stamping.{Givens, none_given, given_by, given_in}
use Rattle.world_recoveries.specs.WorldLaws.Carrying.{new_stamp}
use Rattle.world_acks.specs.Waiting.{IsQuiet}

-- There is a replica, and it is FINALIZED under this stamp, also where a recovery holds it.
pub record FinalUnder (stamp : ℕ) (o : Option ReplicaInfo) : Type 0 where
  pub info : ReplicaInfo
  pub is : o ≡ Some info
  pub original : info.original ≡ state.Finalized
  pub under : info.stamp.0 ≡ stamp

-- such a replica broke in an event that changes no files
pub record BrokeFinal (stamp : ℕ) (x : Break) : Type 0 where
  pub unchanged : has_changing (plan x.before x.event) ≡ false
  pub before : FinalUnder stamp x.before.known.info

-- A node's replica of a block is FINALIZED under a stamp, and so is what a restart finds of it.
pub record IsClosed (w : World) (b stamp n : ℕ) : Type 0 where
  pub replica : FinalUnder stamp (w.replicas n b).known.info
  pub broke : IfSome (w.breaks n b) (BrokeFinal stamp)

-- a later stamp was given for the block
pub record IsPassed (g : Givens) (b stamp : ℕ) : Type 0 where
  pub later : ℕ
  pub session : ℕ
  pub given : g b later ≡ Some session
  pub above : stamp < later

-- A request that recovers an append under just this stamp waits to be taken by a node.
pub record Reopens (h : Past) (lowers : ℕ → Lower) (b stamp n : ℕ) : Type 0 where
  pub conn : ℕ
  pub fields : WriteFields
  pub first : slice_get (h.downs conn) 0 ≡ Some (request (op.Write fields))
  pub node : (h.dialled conn).to.node ≡ n
  pub block : block_of fields ≡ b
  pub is : (new_stamp fields).0 ≡ stamp
  pub stage : setup_with fields.stage ≡ Some kind.AppendRecovery
  pub waits : lowers conn ≡ idle

-- what follows for a closed replica: it stays so, a later stamp was given, or such a request was waiting
pub data Closing (g : Givens) (w v : World) (b stamp n : ℕ) : Type 0 where
  stays : IsClosed v b stamp n → Closing g w v b stamp n
  passed : IsPassed g b stamp → Closing g w v b stamp n
  reopened : Reopens w.past w.lowers b stamp n → Closing g w v b stamp n

-- So it is with every event that follows a list of events, of the stamps that are given in them.
abbrev pub StaysClosed : Type 0
StaysClosed = (nodes : ℕ) (events : List Event) (e : Event) (b stamp n : ℕ) →
    IsClosed (run (start nodes) events) b stamp n →
    Closing (given_by (given_in none_given (start nodes) events) (run (start nodes) events) e)
    (run (start nodes) events)
    (happens (run (start nodes) events) e) b stamp n

-- THE MEMBERS OF A PIPELINE

-- A node has closed under a stamp: its replica is closed, or a later stamp was given for the block.
abbrev pub HasClosed : Givens → World → ℕ → ℕ → ℕ → Type 0
HasClosed g w b stamp n = IsClosed w b stamp n ⊎ IsPassed g b stamp

-- It has, and no request waits that could open its replica again under that stamp.
pub record StandsClosed (g : Givens) (w : World) (b stamp n : ℕ) : Type 0 where
  pub has : HasClosed g w b stamp n
  pub quiet : IsQuiet w stamp

-- a node and each target of a request stand closed under its stamp
pub record AllClosed (g : Givens) (w : World) (f : WriteFields) (n : ℕ) : Type 0 where
  pub here : StandsClosed g w (block_of f) (new_stamp f).0 n
  pub below : (i m : ℕ) (t : NodeRef) → slice_get f.targets i ≡ Some t → node_on t.xfer ≡ Some m →
      StandsClosed g w (block_of f) (new_stamp f).0 m
