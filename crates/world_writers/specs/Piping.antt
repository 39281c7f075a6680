-- What a writer's connection is.
use Rattle.std.specs.Prelude.{ℕ, ◌≡◌, ◌<◌, true, List, ◌∷◌, map, slice_get, Option, Some}
use Rattle.hd_base.specs.declared.numbers.NodeId.{NodeId}
use Rattle.hd_base.specs.declared.numbers.Stamp.{Stamp}
use Rattle.node_refs.specs.NodeRefs.{ref_of}
use Rattle.op_headers.specs.declared.ops.Op.TheVariants as op
use Rattle.op_headers.specs.Values.{WriteFields}
use Rattle.writer_core.specs.declared.phases.Phase.{Phase}
use Rattle.writer_core.specs.declared.phases.Phase.TheVariants as phase
use Rattle.writer_core.specs.declared.phases.Setup.TheVariants as setup
use Rattle.writer_core.specs.declared.records.WriterRecord.{WriterRecord}
use Rattle.writer_core.specs.Transitions.{is_connected}
use Rattle.world.specs.declared.events.Event.{Event}
use Rattle.world.specs.Parts.{request, by_writer}
use Rattle.world.specs.Worlds.{Past, World, start}
use Rattle.world.specs.Nodes.{block_of}
use Rattle.world.specs.Events.{run}
use Rattle.world_laws.specs.Stamping.{heard}
use Rattle.world_laws.specs.Carrying.{new_stamp}

-- the stamp of a writer's setup, in progress or done
abbrev pub setup_stamp : Phase → Stamp → Stamp
setup_stamp (phase.Requested s stamp) committed = stamp
setup_stamp (phase.Accepted s stamp) committed = stamp
setup_stamp _ committed = committed

-- a create's stamp is committed from the first
abbrev pub Creates : Phase → Stamp → Type 0
Creates (phase.Requested setup.Create stamp) committed = committed ≡ stamp
Creates (phase.Accepted setup.Create stamp) committed = committed ≡ stamp
Creates _ committed = Unit {0}

-- A writer's connection, whose request is of this block and stamp; the members are the node at its lower end and the
-- targets.
pub record IsPipeline (h : Past) (block : ℕ) (stamp : Stamp) (members : List NodeId) (conn : ℕ) : Type 0 where
  pub known : conn < h.next_conn
  pub fields : WriteFields
  pub asked : slice_get (h.downs conn) 0 ≡ Some (request (op.Write fields))
  pub block_is : block_of fields ≡ block
  pub stamp_is : new_stamp fields ≡ stamp
  pub first : NodeId
  pub others : List NodeId
  pub are : members ≡ first ∷ others
  pub node : (h.dialled conn).to.node ≡ first.0
  pub upper : (h.dialled conn).upper ≡ by_writer block
  pub targets : fields.targets ≡ map ref_of others

pub record Piped (h : Past) (block : ℕ) (x : WriterRecord) (conn : Option ℕ) : Type 0 where
  pub at : ℕ
  pub is : conn ≡ Some at
  pub pipeline : IsPipeline h block (setup_stamp x.phase x.committed) x.members at
  pub creates : Creates x.phase x.committed

-- Where a writer's phase has a connection there is one, of its members and its setup's stamp.
abbrev pub PipedOf : World → ℕ → Type 0
PipedOf w b = is_connected (heard (w.writers b)).phase ≡ true → Piped w.past b (heard (w.writers b)) (w.writers b).conn

-- So it is of each block's writer after every list of events.
abbrev pub AllPiped : Type 0
AllPiped = (nodes : ℕ) (events : List Event) (b : ℕ) → PipedOf (run (start nodes) events) b
