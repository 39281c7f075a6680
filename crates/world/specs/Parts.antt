-- The parts of the world: messages, connections and their two ends, those that act by themselves, and the entries of the records that only grow.
use Rattle.std.specs.Prelude.{ℕ, Bool, false, List, Option, None, Result}
use Rattle.member_core.specs.HdBase.BlockId.{BlockId}
use Rattle.member_core.specs.HdBase.NodeId.{NodeId}
use Rattle.member_core.specs.HdBase.Status.{Status}
use Rattle.member_core.specs.AckCodec.Ack.{Ack}
use Rattle.member_core.specs.AckCodec.Response.{Response}
use Rattle.member_core.specs.PacketCodec.Packet.{Packet}
use Rattle.member_core.specs.OpHeaders.RecoveryAnswer.{RecoveryAnswer}
use Rattle.member_core.specs.OpHeaders.Op.{Op}
use Rattle.member_core.specs.OpHeaders.Values.{WriteFields}
use Rattle.name_core.specs.declared.calls.OfficeAnswer.{OfficeAnswer}
use Rattle.name_core.specs.declared.faults.OfficeFault.{OfficeFault}
use Rattle.member_core.specs.ReplicaModel.ReplicaEvent.{ReplicaEvent}
use Rattle.member_core.specs.ReplicaModel.Rows.{FullReplica}
use Rattle.member_core.specs.Members.{MemberState}
use Rattle.writer_core.specs.declared.actions.ClientAnswer.{ClientAnswer}
use Rattle.writer_core.specs.declared.records.WriterRecord.{WriterRecord}
use Rattle.read_core.specs.declared.reading.ReadFault.{ReadFault}
use Rattle.read_core.specs.Readings.{ReadingState}
use Rattle.read_core.specs.Servings.{ServingState}
use Rattle.recovery_core.specs.declared.primary.Recovered.{Recovered}
use Rattle.recovery_core.specs.Primaries.{PrimaryState}

-- CONNECTIONS

-- what one end of a connection sends to the other
pub data Message : Type 0 where
  request : Op → Message
  packet : Packet → Message
  ack : Ack → Message
  response : Response → Message
  read_status : Status → Message
  recovery_answer : RecoveryAnswer → Message

-- a node in one of its lives
pub record Place : Type 0 where
  pub node : ℕ
  pub life : ℕ

-- Who dialled: the writer of a block, the member whose request came on a connection, a reader, or a primary for the member at a place of its list.
pub data Upper : Type 0 where
  by_writer : ℕ → Upper
  by_member : ℕ → Upper
  by_reader : ℕ → Upper
  by_primary : ℕ → ℕ → Upper

-- a connection: who dialled, from which node if from one, and the node that took the dial
pub record Dialled : Type 0 where
  pub upper : Upper
  pub from : Option Place
  pub to : Place

-- Of one direction: how many messages were taken, behind how many the end stands, if it does, and whether the end was taken.
pub record Marks : Type 0 where
  pub taken : ℕ
  pub end : Option ℕ
  pub over : Bool

abbrev pub new_marks : Marks
new_marks = record { taken = 0; end = None; over = false }

-- LOWER ENDS

-- a member of a pipeline: its request, its state, and the connection to its mirror, where it was dialled
pub record FullMember : Type 0 where
  pub fields : WriteFields
  pub state : MemberState
  pub mirror : Option ℕ

-- the lower end of a connection: it has taken nothing yet, is a member of a pipeline, serves a read of a block, answers a primary, or has ended
pub data Lower : Type 0 where
  idle : Lower
  writes : FullMember → Lower
  serves : ℕ → ServingState → Lower
  recovers : Lower
  ended_below : Lower

-- THOSE THAT ACT BY THEMSELVES

-- what the office answers
abbrev pub Told : Type 0
Told = Result OfficeAnswer OfficeFault

-- a writer, its connection, if it has one, and an answer of the office that waits for it
pub record Writing : Type 0 where
  pub known : WriterRecord
  pub conn : Option ℕ
  pub told : Option Told

-- a reader: not begun; reading, over a connection; or with what it has read
pub data Reader : Type 0 where
  no_reader : Reader
  reads : ℕ → ReadingState → Reader
  has_read : Result (List ℕ) ReadFault → Reader

-- a primary that has begun: where it is, its state, its connections in the order of the members, and an answer of the office that waits for it
pub record Leading : Type 0 where
  pub at : Place
  pub state : PrimaryState
  pub conns : List (Option ℕ)
  pub told : Option Told

-- a primary: not begun; answered by the office, which it asked to begin a recovery of a block; begun; or with its result
pub data Primary : Type 0 where
  no_primary : Primary
  was_told : BlockId → Told → Primary
  leads : Leading → Primary
  has_led : Recovered → Primary

-- in which event a replica broke, and what it was before
pub record Break : Type 0 where
  pub before : FullReplica
  pub event : ReplicaEvent

-- RECORDS THAT ONLY GROW

-- the command of an answer that tells a length
pub data Reaching : Type 0 where
  by_hflush : Reaching
  by_hsync : Reaching
  by_close : Reaching

-- an hflush, hsync or close that was answered: so many bytes, under this stamp, at these members
pub record Answered : Type 0 where
  pub block : ℕ
  pub command : Reaching
  pub length : ℕ
  pub stamp : ℕ
  pub members : List NodeId

-- the answer to a command, by its number among those of its block
pub record Said : Type 0 where
  pub ordinal : ℕ
  pub answer : ClientAnswer

-- a node accepted the setup of this stamp in this life
pub record Joined : Type 0 where
  pub stamp : ℕ
  pub node : ℕ
  pub life : ℕ

-- a recovery gave a replica this length
pub record Updated : Type 0 where
  pub node : ℕ
  pub life : ℕ
  pub block : ℕ
  pub recovery : ℕ
  pub length : ℕ
