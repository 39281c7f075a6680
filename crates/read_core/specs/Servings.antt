-- The serving of a read: the answer, and one packet an event up to what was visible at its start.
use Rattle.std.specs.Prelude.{ℕ, ◌==◌, ◌+◌, ◌-◌, ◌*◌, ◌/◌, ◌%◌, min, max, if◌then◌else◌, false, List, [], take, drop, Option, Some, None, Result, Ok, Err}
use Rattle.std.specs.Int.{w64, div_ceil, cast_signed}
use Rattle.hd_base.specs.declared.numbers.Stamp.{Stamp}
use Rattle.hd_base.specs.declared.states.Status.TheVariants as status
use Rattle.hd_base.specs.SumRules.{Rule, kind_number}
use Rattle.ack_codec.specs.declared.responses.Response.{Response}
use Rattle.chunk_sums.specs.Chunks.{sums}
use Rattle.op_headers.specs.declared.ops.ReadOp.{ReadOp}
use Rattle.packet_codec.specs.declared.packets.Packet.{Packet}
use Rattle.replica_core.specs.declared.events.Answer.{Answer}
use Rattle.replica_core.specs.declared.events.Answer.TheVariants as answer
use Rattle.replica_core.specs.declared.events.Event.{Event}
use Rattle.replica_core.specs.declared.events.Event.TheVariants as event
use Rattle.replica_core.specs.Views.{rule_in}
use Rattle.replica_model.specs.declared.events.ReplicaEvent.TheVariants as replica_event
use Rattle.replica_model.specs.Rows.{FullReplica, row_answer, broken}
use Rattle.request_refusals.specs.declared.refusals.RequestRefusal.{RequestRefusal}
use Rattle.request_refusals.specs.declared.refusals.RequestRefusal.TheVariants as refusal
use Rattle.request_refusals.specs.Pools.{is_in_pool}
use Rattle.request_refusals.specs.Texts.{refusal_text}
use Rattle.read_core.specs.declared.serving.ServePhase.{ServePhase}
use Rattle.read_core.specs.declared.serving.ServePhase.TheVariants as phase
use Rattle.read_core.specs.declared.serving.TheConstants.{MOST_BYTES}

-- A read that is served: the stamp that it names, the rule of the sums, where its packets begin, where the next one does, and where they end.
pub record ServingState : Type 0 where
  pub named : Stamp
  pub rule : Rule
  pub from : ℕ
  pub at : ℕ
  pub end : ℕ
  pub phase : ServePhase

-- the first byte of the chunk that this byte lies in
abbrev pub chunk_start : ℕ → ℕ → ℕ
chunk_start size offset = offset - offset % size

-- the least multiple of the chunk size that isn't below
abbrev pub chunk_end : ℕ → ℕ → ℕ
chunk_end size offset = offset + (size - offset % size) % size

-- how many bytes a packet has at most: whole chunks
unfoldable pub most_bytes : ℕ → ℕ
most_bytes size = size * max 1 (MOST_BYTES / size)

-- The event that a read is at the replica, or why it is refused before.
unfoldable pub read_event : ReadOp → Result Event RequestRefusal
read_event op = if is_in_pool op.block then Ok (event.Read op.block.stamp op.offset op.len) else Err refusal.Pool

-- where the packets of a read end, where so many bytes are visible: behind whole chunks, but not past these; a read of nothing has none
unfoldable pub read_end : Rule → ℕ → ℕ → ℕ → ℕ
read_end rule offset bytes visible =
    if bytes == 0 then chunk_start rule.chunk offset else min visible (chunk_end rule.chunk (offset + bytes))

-- a read that was answered SUCCESS, where so many bytes are visible
unfoldable pub begun : ReadOp → Rule → ℕ → ServingState
begun op rule visible = record {
  named = op.block.stamp;
  rule = rule;
  from = chunk_start rule.chunk op.offset;
  at = chunk_start rule.chunk op.offset;
  end = read_end rule op.offset op.len visible;
  phase = phase.Sending;
}

-- how many bytes the next packet has; the last one has none
unfoldable pub piece_len : ServingState → ℕ
piece_len s = min (s.end - s.at) (most_bytes s.rule.chunk)

-- how many packets were sent
unfoldable pub sent_before : ServingState → ℕ
sent_before s = div_ceil (s.at - s.from) (most_bytes s.rule.chunk)

-- the book call of the next packet
abbrev pub piece_event : ServingState → Event
piece_event s = event.Read s.named s.at (piece_len s)

abbrev pub call_at : ServePhase → ServingState → Option Event
call_at phase.Sending s = Some (piece_event s)
call_at _ s = None

abbrev pub next_call : ServingState → Option Event
next_call s = call_at s.phase s

-- the next packet, with these bytes
unfoldable pub packet_of : ServingState → List ℕ → Packet
packet_of s body = record {
  offset = cast_signed w64 s.at;
  seqno = cast_signed w64 (sent_before s);
  last = piece_len s == 0;
  sync = false;
  sums = sums s.rule body;
  body = body;
}

-- the bytes of the next packet are those of the replica
abbrev pub piece_of : FullReplica → ServingState → List ℕ
piece_of r s = take (piece_len s) (drop s.at r.bytes)

-- behind the last packet the reader's answer is awaited
abbrev pub phase_behind : ℕ → ServePhase
phase_behind bytes = if bytes == 0 then phase.Awaiting else phase.Sending

-- a read that goes on behind its next packet
unfoldable pub gone_on : ServingState → ServingState
gone_on s = record s { at = s.at + piece_len s; phase = phase_behind (piece_len s) }

-- a read once its next packet was sent; where none is to be sent, it stays as it is
abbrev pub sent_in : ServePhase → ServingState → ServingState
sent_in phase.Sending s = gone_on s
sent_in _ s = s

abbrev pub sent : ServingState → ServingState
sent s = sent_in s.phase s

-- a read that is over: its next call was refused or failed, or the reader's answer or end was taken; its connection is shut
abbrev pub over : ServingState → ServingState
over s = record s { phase = phase.Over }

-- the answer to a read that is served: the kind of the sums, the chunk size, and where the packets begin
abbrev pub accepting : ServingState → Response
accepting s = record {
  status = status.Success;
  first_bad = [];
  sums_from = Some (kind_number s.rule.kind, s.rule.chunk, s.from);
  message = [];
}

-- the answer to a read that is refused
abbrev pub refusing : RequestRefusal → Response
refusing r = record { status = status.Error; first_bad = []; sums_from = None; message = refusal_text r }

-- READS AT A REPLICA

-- a read that the replica answered so: it is served, or why it is refused
abbrev pub begun_as : ReadOp → Option Rule → Answer → Result ServingState RequestRefusal
begun_as op (Some rule) (answer.Visible visible) = Ok (begun op rule visible)
begun_as op rule (answer.Refused r) = Err (refusal.Core r)
begun_as op rule _ = Err refusal.File

abbrev pub begun_at : ReadOp → FullReplica → Result Event RequestRefusal → Result ServingState RequestRefusal
begun_at op r (Err refused) = Err refused
begun_at op r (Ok e) = begun_as op (rule_in r.known) (row_answer r (replica_event.Other e))

-- a read at a replica
abbrev pub read_at : ReadOp → FullReplica → Result ServingState RequestRefusal
read_at op r = begun_at op r (read_event op)

-- a read whose book call ends by a failed call on files: the replica is broken, and the read refused so
abbrev pub faulted_read : FullReplica → FullReplica × RequestRefusal
faulted_read r = (broken r, refusal.File)

-- a packet of a read, and the read behind it
pub record Piece : Type 0 where
  pub serving : ServingState
  pub packet : Option Packet

-- a read that ends before its last packet
abbrev pub early_end : ServingState → Piece
early_end s = record { serving = over s; packet = None }

abbrev pub piece_as : ServingState → FullReplica → Answer → Piece
piece_as s r (answer.Visible visible) = record { serving = sent s; packet = Some (packet_of s (piece_of r s)) }
piece_as s r _ = early_end s

-- the next packet of a read at a replica, or its early end
abbrev pub piece_at : ServingState → FullReplica → Piece
piece_at s r = piece_as s r (row_answer r (replica_event.Other (piece_event s)))

-- the same where the book call ends by a failed call on files: the replica is broken, and the read ends early
abbrev pub faulted_piece : ServingState → FullReplica → FullReplica × Piece
faulted_piece s r = (broken r, early_end s)
