-- The kinds of messages.
use Rattle.std.specs.Prelude.{◌≡◌, ℕ, ◌<◌, ◌≤◌, List, ◌++◌, length, take, All, Some, Result, Ok, Err}
use Rattle.hd_base.specs.Results.{with_cause}
use Rattle.hd_base.specs.Bytes.{IsBytes}
use Rattle.hd_base.specs.Wire.{IsStatus}
use Rattle.hd_base.specs.declared.states.Status.{Status}
use Rattle.packet_codec.specs.declared.packets.Packet.{Packet}
use Rattle.packet_codec.specs.Packets.{SpellsPacket, packet_at}
use Rattle.packet_codec.specs.Refusals.{IsRefused}
use Rattle.ack_codec.specs.declared.acks.Ack.{Ack}
use Rattle.ack_codec.specs.declared.responses.Response.{Response}
use Rattle.ack_codec.specs.Acks.{SpellsAck, SpellsReadStatus, ack_at, read_status_at}
use Rattle.ack_codec.specs.AckRefusals.{IsRefusedAck, IsRefusedReadStatus}
use Rattle.ack_codec.specs.Responses.{SpellsResponse, response_at}
use Rattle.ack_codec.specs.ResponseRefusals.{IsRefusedResponse}
use Rattle.op_headers.specs.declared.ops.Op.{Op}
use Rattle.op_headers.specs.declared.answers.RecoveryAnswer.{RecoveryAnswer}
use Rattle.op_headers.specs.Requests.{SpellsOp, IsRefusedOp, request_at}
use Rattle.op_headers.specs.Answers.{SpellsAnswer, IsRefusedAnswer, answer_at}
use Rattle.frame_feed.specs.declared.faults.FeedFault.{FeedFault}
use Rattle.frame_feed.specs.declared.faults.NoMessage.{NoMessage}
use Rattle.frame_feed.specs.declared.faults.NoMessage.TheVariants.{Short, Memory, Refused}
use Rattle.frame_feed.specs.declared.framing.Framing.{Framing}
use Rattle.frame_feed.specs.declared.packet_frames.PacketFrame.{PacketFrame}
use Rattle.frame_feed.specs.declared.framing.Framing.TheVariants as framing
use Rattle.frame_feed.specs.Faults.{no_op, no_packet, no_ack, no_response, no_answer, StandsThere, IsOfStream}
use Rattle.frame_feed.specs.Framings.{IsCut, size_at}

-- A kind of message: which bytes spell one, why bytes begin with none, that no status that is read is an Other in place of one that is listed, how the length shows, and what reading the bytes gives.
pub record Kind (M : Type 0) : Type 1 where
  pub spells : M → List ℕ → Type 0
  pub stops : NoMessage → List ℕ → Type 0
  pub listed : M → Type 0
  pub framing : Framing
  pub reads : List ℕ → Result (M × ℕ) NoMessage

abbrev pub requests : Kind Op
requests = record {
  spells = SpellsOp;
  stops = StandsThere no_op IsRefusedOp;
  listed = λ _. Unit {0};
  framing = framing.Request;
  reads = λ bytes. with_cause no_op (request_at bytes);
}

abbrev pub packets : Kind Packet
packets = record {
  spells = SpellsPacket;
  stops = StandsThere no_packet IsRefused;
  listed = λ _. Unit {0};
  framing = framing.Packet;
  reads = λ bytes. with_cause no_packet (packet_at bytes);
}

-- a packet that was read off the front of the bytes, with those that spell it
abbrev pub with_text : List ℕ → Result (Packet × ℕ) NoMessage → Result (PacketFrame × ℕ) NoMessage
with_text bytes (Ok x) = Ok (record { packet = x.0; text = take x.1 bytes }, x.1)
with_text bytes (Err why) = Err why

-- The bytes spell the packet, and are those that are kept with it.
abbrev pub SpellsFrame : PacketFrame → List ℕ → Type 0
SpellsFrame f text = SpellsPacket f.packet text × (f.text ≡ text)

abbrev pub packet_frames : Kind PacketFrame
packet_frames = record {
  spells = SpellsFrame;
  stops = packets.stops;
  listed = λ _. Unit {0};
  framing = framing.Packet;
  reads = λ bytes. with_text bytes (packets.reads bytes);
}

abbrev pub acks : Kind Ack
acks = record {
  spells = SpellsAck;
  stops = StandsThere no_ack IsRefusedAck;
  listed = λ ack. All IsStatus ack.replies;
  framing = framing.Prefixed;
  reads = λ bytes. with_cause no_ack (ack_at bytes);
}

abbrev pub responses : Kind Response
responses = record {
  spells = SpellsResponse;
  stops = StandsThere no_response IsRefusedResponse;
  listed = λ response. IsStatus response.status;
  framing = framing.Prefixed;
  reads = λ bytes. with_cause no_response (response_at bytes);
}

abbrev pub answers : Kind RecoveryAnswer
answers = record {
  spells = SpellsAnswer;
  stops = StandsThere no_answer IsRefusedAnswer;
  listed = λ answer. IsStatus answer.status;
  framing = framing.Prefixed;
  reads = λ bytes. with_cause no_answer (answer_at bytes);
}

abbrev pub read_statuses : Kind Status
read_statuses = record {
  spells = SpellsReadStatus;
  stops = StandsThere no_ack IsRefusedReadStatus;
  listed = IsStatus;
  framing = framing.Prefixed;
  reads = λ bytes. with_cause no_ack (read_status_at bytes);
}

-- What holds of each kind: reading gives what is spelled at the front, or why nothing is; Short is that the message is cut off, as each front of one is; and a message's front tells its size.
pub record IsSound {M : Type 0} (kind : Kind M) : Type 0 where
  pub found : (m : M) (k : ℕ) (bytes : List ℕ) → IsBytes bytes → kind.reads bytes ≡ Ok (m, k) →
      kind.spells m (take k bytes)
  pub within : (m : M) (k : ℕ) (bytes : List ℕ) → IsBytes bytes → kind.reads bytes ≡ Ok (m, k) → k ≤ length bytes
  pub listed : (m : M) (k : ℕ) (bytes : List ℕ) → IsBytes bytes → kind.reads bytes ≡ Ok (m, k) → kind.listed m
  pub only : (m : M) (text rest : List ℕ) → kind.spells m text → kind.reads (text ++ rest) ≡ Ok (m, length text)
  pub fails : (why : NoMessage) (bytes : List ℕ) → IsBytes bytes → kind.reads bytes ≡ Err why → kind.stops why bytes
  pub stopped : (why : NoMessage) (bytes : List ℕ) → IsBytes bytes → kind.stops why bytes → kind.reads bytes ≡ Err why
  pub is_cut : (bytes : List ℕ) → kind.stops Short bytes → IsCut kind.framing bytes
  pub cut : (bytes : List ℕ) → IsCut kind.framing bytes → kind.stops Short bytes
  pub front : (m : M) (text bytes more : List ℕ) → kind.spells m text → bytes ++ more ≡ text → 0 < length more →
      IsCut kind.framing bytes
  pub no_memory : (bytes : List ℕ) → kind.stops Memory bytes → ⊥
  pub sized : (m : M) (text : List ℕ) → kind.spells m text → size_at kind.framing text ≡ Some (length text)
  pub of_stream : (e : FeedFault) (bytes : List ℕ) → kind.stops (Refused e) bytes → IsOfStream e
