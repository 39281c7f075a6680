-- How a case is told: its events in short, and what of the world at its end is compared.
use Rattle.std.specs.Prelude.{ℕ, zero, suc, ◌+◌, nat_abs, Bool, true, List, [], ◌∷◌, ◌++◌, length, map, if◌then◌else◌, Option, Some, None}
use Rattle.hd_base.specs.declared.numbers.BlockId.{BlockId}
use Rattle.hd_base.specs.declared.numbers.ConnId.{ConnId}
use Rattle.hd_base.specs.declared.numbers.NodeId.{NodeId}
use Rattle.hd_base.specs.declared.numbers.Stamp.{Stamp}
use Rattle.hd_base.specs.declared.states.ReplicaState.{ReplicaState}
use Rattle.hd_base.specs.declared.sum_rule.SumKind.TheVariants as kind
use Rattle.hd_base.specs.SumRules.{Rule}
use Rattle.hd_base.specs.Wire.{status_number, state_number}
use Rattle.chunk_sums.specs.Crc.{sum_of}
use Rattle.op_headers.specs.declared.ops.Op.{Op}
use Rattle.op_headers.specs.declared.ops.Op.TheVariants as op
use Rattle.op_headers.specs.declared.ops.RecoveryKind.{RecoveryKind}
use Rattle.op_headers.specs.declared.ops.RecoveryKind.TheVariants as recovery
use Rattle.op_headers.specs.declared.ops.RecoveryOp.{RecoveryOp}
use Rattle.op_headers.specs.declared.ops.ReadOp.{ReadOp}
use Rattle.replica_core.specs.declared.info.ReplicaInfo.{ReplicaInfo}
use Rattle.replica_core.specs.Info.{state_of}
use Rattle.replica_model.specs.Rows.{FullReplica}
use Rattle.writer_core.specs.declared.actions.ClientAnswer.{ClientAnswer}
use Rattle.writer_core.specs.declared.commands.Command.{Command}
use Rattle.world.specs.declared.events.Caller.TheVariants as caller
use Rattle.world.specs.declared.events.Delivery.TheVariants as delivery
use Rattle.world.specs.declared.events.Direction.{Direction}
use Rattle.world.specs.declared.events.Event.{Event}
use Rattle.world.specs.declared.events.Event.TheVariants as event
use Rattle.world.specs.declared.events.FoundReplica.{FoundReplica}
use Rattle.world.specs.declared.events.OwnStep.TheVariants as own
use Rattle.world.specs.Parts.{Message, request, packet, ack, response, read_status, recovery_answer, Said}
use Rattle.world.specs.Worlds.{World}

-- NUMBERS

abbrev pub node : ℕ → NodeId
node n = record { 0 = n }

abbrev pub block : ℕ → BlockId
block b = record { 0 = b }

abbrev pub stamp : ℕ → Stamp
stamp s = record { 0 = s }

abbrev pub conn : ℕ → ConnId
conn c = record { 0 = c }

-- EVENTS

-- the writer of a block takes a command; a create is under this rule
abbrev pub takes : ℕ → Rule → Command → Event
takes b rule c = event.Own (own.Writer (block b) (Some (record { command = c; rule = rule })) true)

-- the writer of a block takes another step, and a dial in it is answered
abbrev pub acts : ℕ → Event
acts b = event.Own (own.Writer (block b) None true)

-- the writer of a block asks the office
abbrev pub asks : ℕ → Event
asks b = event.Office (caller.Writer (block b))

-- a reader begins at a node, from an offset on, for so many bytes
abbrev pub begins_read : ℕ → ℕ → ReadOp → Event
begins_read i n r = event.Own (own.Reader i (node n) r true)

-- a primary asks the office
abbrev pub asks_recovery : ℕ → ℕ → Event
asks_recovery i b = event.Office (caller.Primary i (block b))

-- a primary begins at a node, with these members, each of which answers its dial
abbrev pub recovers : ℕ → ℕ → ℕ → List NodeId → Event
recovers i n b members = event.Own (own.Recover i (node n) (block b) members (map (λ m. true) members))

-- a primary takes another step
abbrev pub leads : ℕ → Event
leads i = event.Own (own.Primary i)

-- the lower end takes what stands next; a dial in it is answered
abbrev pub down : ℕ → Event
down c = event.Down (conn c) true

abbrev pub ready : ℕ → Event
ready c = event.Ready (conn c)

abbrev pub up : ℕ → Event
up c = event.Up (conn c)

-- the book call of the lower end, which takes what stands next, fails
abbrev pub fails : ℕ → Event
fails c = event.Fault (delivery.Down (conn c))

abbrev pub loses : ℕ → Direction → ℕ → Event
loses c way more = event.Lost (conn c) way more

abbrev pub stops : ℕ → Event
stops n = event.Stop (node n)

abbrev pub starts : ℕ → List FoundReplica → Event
starts n found = event.Restart (node n) found

-- WHAT IS COMPARED

-- a message in short: a packet by where it begins and ends, its number, and whether it is the last one and asks for a sync
pub data Shown : Type 0 where
  -- named stamp, stage, new stamp, least and greatest length, ports of the targets
  writing : ℕ → ℕ → ℕ → ℕ → ℕ → List ℕ → Shown
  -- stamp, offset, length
  reading : ℕ → ℕ → ℕ → Shown
  -- committed stamp and recovery id, and of an UPDATE the length
  beginning : ℕ → ℕ → Shown
  updating : ℕ → ℕ → ℕ → Shown
  other_request : Shown
  piece : ℕ → ℕ → ℕ → Bool → Bool → Shown
  -- seqno and replies
  acking : ℕ → List ℕ → Shown
  -- status, first bad member, sums, message
  answering : ℕ → List ℕ → Option (ℕ × ℕ × ℕ) → List ℕ → Shown
  status : ℕ → Shown
  -- status, message, and what is told of the replica
  telling : ℕ → List ℕ → Option (ℕ × ℕ × ℕ) → Shown

abbrev pub shown_recovery : RecoveryKind → RecoveryOp → Shown
shown_recovery recovery.Init r = beginning r.block.stamp.0 r.recovery.0
shown_recovery recovery.Update r = updating r.block.stamp.0 r.recovery.0 r.new_length
shown_recovery recovery.Begin r = other_request

abbrev pub shown_request : Op → Shown
shown_request (op.Write f) = writing f.block.stamp.0 f.stage f.latest.0 f.min f.max (map (λ t. t.xfer) f.targets)
shown_request (op.Read r) = reading r.block.stamp.0 r.offset r.len
shown_request (op.Recovery r) = shown_recovery r.kind r
shown_request r = other_request

abbrev pub shown_info : Option (ReplicaState × Stamp × ℕ) → Option (ℕ × ℕ × ℕ)
shown_info None = None
shown_info (Some (at, s, n)) = Some (state_number at, s.0, n)

abbrev pub shown : Message → Shown
shown (request r) = shown_request r
shown (packet p) = piece (nat_abs p.offset) (nat_abs p.offset + length p.body) (nat_abs p.seqno) p.last p.sync
shown (ack a) = acking (nat_abs a.seqno) (map status_number a.replies)
shown (response r) = answering (status_number r.status) r.first_bad r.sums_from r.message
shown (read_status s) = status (status_number s)
shown (recovery_answer a) = telling (status_number a.status) a.message (shown_info a.info)

-- what a report says of a replica: its sum, or none of a broken one
pub record Line : Type 0 where
  pub state : ReplicaState
  pub stamp : ℕ
  pub written : ℕ
  pub acked : ℕ
  pub sum : Option ℕ

abbrev pub line : ReplicaState → ℕ → ℕ → ℕ → Option ℕ → Option Line
line at s written acked sum = Some (record { state = at; stamp = s; written = written; acked = acked; sum = sum })

abbrev pub line_as : Option ReplicaInfo → Bool → List ℕ → Option Line
line_as None broken bytes = None
line_as (Some h) broken bytes = line (state_of h) h.stamp.0 h.written h.acked (if broken then None
    else Some (sum_of kind.Crc32c bytes))

abbrev pub line_of : FullReplica → Option Line
line_of r = line_as r.known.info r.known.is_broken r.bytes

abbrev pub says : ℕ → ClientAnswer → Said
says n a = record { ordinal = n; answer = a }

-- the numbers below one
abbrev pub below : ℕ → List ℕ
below zero = []
below (suc n) = below n ++ n ∷ []

-- what is compared: the replicas of a block at each node, the answers of its commands, and all messages by connection
pub record Ends : Type 0 where
  pub replicas : List (Option Line)
  pub said : List Said
  pub downs : List (List Shown)
  pub ups : List (List Shown)

abbrev pub ends_of : ℕ → World → Ends
ends_of b w = record {
  replicas = map (λ n. line_of (w.replicas n b)) (below w.nodes);
  said = w.said b;
  downs = map (λ c. map shown (w.downs c)) (below w.next_conn);
  ups = map (λ c. map shown (w.ups c)) (below w.next_conn);
}
