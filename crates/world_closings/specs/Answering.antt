-- What a writer's members have where a close is about to be answered.
use Rattle.std.specs.Prelude.{ℕ, ◌≡◌, false, List, slice_get, Option, Some}
use Rattle.hd_base.specs.declared.numbers.NodeId.{NodeId}
use Rattle.hd_base.specs.declared.numbers.Stamp.{Stamp}
use Rattle.name_core.specs.declared.records.BlockRecord.{BlockRecord}
use Rattle.name_core.specs.Offices.{record_of}
use Rattle.node_refs.specs.NodeRefs.{port_of}
use Rattle.op_headers.specs.declared.ops.Op.TheVariants as op
use Rattle.op_headers.specs.Values.{WriteFields}
use Rattle.packet_stream.specs.Streams.{written_in}
use Rattle.member_core.specs.declared.requests.SetupKind.TheVariants as kind
use Rattle.member_core.specs.Requests.{setup_with}
use Rattle.writer_core.specs.declared.phases.Phase.{Phase}
use Rattle.writer_core.specs.declared.phases.Phase.TheVariants as phase
use Rattle.writer_core.specs.declared.phases.Setup.TheVariants as setup
use Rattle.writer_core.specs.declared.records.WriterRecord.{WriterRecord}
use Rattle.world.specs.declared.events.Event.{Event}
use Rattle.world.specs.Parts.{request, by_close, Answered, Writing}
use Rattle.world.specs.Worlds.{Past, World, start}
use Rattle.world.specs.Nodes.{node_on}
use Rattle.world.specs.Events.{run}
use Rattle.world.specs.Safe.{Has}
use Rattle.world_laws.specs.Stamping.{Givens, none_given, given_in, heard}
use Rattle.world_laws.specs.Carrying.{Sets}
use Rattle.world_writers.specs.WorldAcks.Closing.{StandsClosed}

-- These members have closed under the stamp of a setup that was asked, and stay so: each whose port in requests is
-- that of its node.
pub record MembersClosed (g : Givens) (w : World) (b : ℕ) (stamp : Stamp) (members : List NodeId) : Type 0 where
  pub conn : ℕ
  pub asked : Sets w.past conn stamp
  pub each : (m : NodeId) → Has members m → node_on (port_of m) ≡ Some m.0 → StandsClosed g w b stamp.0 m.0

-- the request of a writer's connection recovers a close
pub record AsksToClose (h : Past) (conn : Option ℕ) : Type 0 where
  pub at : ℕ
  pub is : conn ≡ Some at
  pub fields : WriteFields
  pub first : slice_get (h.downs at) 0 ≡ Some (request (op.Write fields))
  pub stage : setup_with fields.stage ≡ Some kind.CloseRecovery

-- the office has closed the block under this stamp
pub record IsCompleted (w : World) (b : ℕ) (stamp : Stamp) : Type 0 where
  pub entry : BlockRecord
  pub is : record_of w.office (record { 0 = b }) ≡ Some entry
  pub closed : entry.is_open ≡ false
  pub committed : entry.committed ≡ stamp

-- the answer of a writer in this state to a close, once its block is completed
pub record AnswersClose (b : ℕ) (x : WriterRecord) (a : Answered) : Type 0 where
  pub phase_is : x.phase ≡ phase.Completed
  pub is : a ≡ record {
    block = b;
    command = by_close;
    length = written_in x.stream;
    stamp = x.committed.0;
    members = x.members;
  }

-- From the good ack of the last packet on, and from the answer to the recovery of a close on, all members have
-- closed; once the block is completed, the office has closed it.
abbrev pub ClosesIn : Givens → World → ℕ → Option ℕ → WriterRecord → Phase → Type 0
ClosesIn g w b conn x (phase.Requested setup.CloseRecovery stamp) = AsksToClose w.past conn
ClosesIn g w b conn x (phase.Accepted setup.CloseRecovery stamp) = MembersClosed g w b stamp x.members
ClosesIn g w b conn x phase.Finished = MembersClosed g w b x.committed x.members
ClosesIn g w b conn x phase.Completed = MembersClosed g w b x.committed x.members × IsCompleted w b x.committed
ClosesIn g w b conn x _ = Unit {0}

abbrev pub ClosesOf : Givens → World → ℕ → Writing → Type 0
ClosesOf g w b x = ClosesIn g w b x.conn (heard x) (heard x).phase

pub record Closes (g : Givens) (w : World) : Type 0 where
  pub writers : (b : ℕ) → ClosesOf g w b (w.writers b)

-- So it is after every list of events, of the stamps that are given in them.
abbrev pub AllClose : Type 0
AllClose = (nodes : ℕ) (events : List Event) →
    Closes (given_in none_given (start nodes) events) (run (start nodes) events)
