-- Messages whose values fit are spelled by their texts.
use Rattle.std.proofs.Common.{◌≡◌, ℕ, suc, ◌+◌, ◌*◌, ◌%◌, ◌^◌, ◌<◌, ◌≤◌, List, [], ◌∷◌, length, Option, Some, None, IfSome, IsSome, Ok, ℤ, pos, negsuc, refl, sym, ap, subst, arith, append-nil, length-append}
use Rattle.std.specs.Prelude.{All, Bool, true, false}
use Rattle.std.specs.List.{flat_map}
use Rattle.std.specs.Int.{w64}
use mir.Val.{SFits}
use Rattle.hd_base.specs.declared.states.Status.{Status}
use Rattle.hd_base.specs.Wire.{IsStatus, status_number}
use Rattle.world_laws.specs.AckCodec.Ack.{Ack}
use Rattle.world_laws.specs.AckCodec.Response.{Response}
use Rattle.world_laws.specs.AckCodec.Acks.{SpellsAck, SpellsReadStatus}
use Rattle.world_laws.specs.AckCodec.AckTexts.{zigzag, reply_text, ack_message, ack_text}
use Rattle.world_laws.specs.AckCodec.Responses.{SpellsResponse}
use Rattle.world_laws.specs.AckCodec.ResponseTexts.{HasListedKind, HasWidths, response_text}
use Rattle.world_laws.proofs.AckCodec.AckTextLemmas.{varint_field_few, varint_field_most, ack_text_spells}
use Rattle.world_laws.proofs.AckCodec.ResponseTextLemmas.{response_text_spells, response_message_few}
use Rattle.world_laws.specs.PacketCodec.Packet.{Packet}
use Rattle.world_laws.specs.PacketCodec.Frames.{limit}
use Rattle.world_laws.specs.PacketCodec.Headers.{header_size}
use Rattle.world_laws.specs.PacketCodec.Packets.{SpellsPacket, payload_for, packet_text}
use Rattle.world_laws.proofs.PacketCodec.WrittenLemmas.{packet_text_spells}
use Rattle.op_headers.specs.declared.nodes.NodeRef.{NodeRef}
use Rattle.op_headers.specs.declared.ops.Op.{Op}
use Rattle.op_headers.specs.declared.ops.Op.TheVariants as op
use Rattle.op_headers.specs.Values.{WriteFields}
use Rattle.op_headers.specs.Tables.{EachFits}
use Rattle.op_headers.specs.Formats.{node_format}
use Rattle.op_headers.specs.Requests.{SpellsOp, OpFits, IsLawfulStep, op_message, op_text}
use Rattle.op_headers.specs.Room.{nodes_room, source_room}
use Rattle.op_headers.proofs.FormatLemmas.{node_fits, block_fits, WriteNumbersFit, write_fits, recovery_fits}
use Rattle.op_headers.proofs.RoomLemmas.{op_few, answer_few}
use Rattle.op_headers.proofs.RequestTextLemmas.{request_spelled}
use Rattle.op_headers.specs.declared.ops.ReadOp.{ReadOp}
use Rattle.op_headers.specs.declared.ops.RecoveryOp.{RecoveryOp}
use Rattle.op_headers.specs.declared.answers.RecoveryAnswer.{RecoveryAnswer}
use Rattle.op_headers.specs.Recoveries.{HasItsLength, HasItsTargets}
use Rattle.op_headers.specs.Answers.{SpellsAnswer, answer_table, answer_from, answer_to_encode, answer_format, answer_text}
use Rattle.op_headers.proofs.AnswerLemmas.{InfoFits, answer_fits}
use Rattle.op_headers.proofs.TextLemmas.{IsWritten, written_by_table}
use Rattle.world_nets.specs.ProtoFields.Fields.{Spells}
use Rattle.world_nets.specs.ProtoFields.Varint.{least_varint}
use Rattle.world_nets.specs.ProtoFields.Writing.{varint_field}
use Rattle.world_nets.specs.ProtoFields.Wire.TheVariants as wire
use Rattle.world_nets.proofs.ProtoFields.VarintLemmas.{least_varint_spells}
use Rattle.world_nets.proofs.ProtoFields.WrittenLemmas.{varint_field_spells, varint_field_within, SpellsFrom-cons}
use Rattle.world_nets.proofs.ProtoFields.StatusLemmas.{decoded_status_number}
use Rattle.world_nets.specs.Rows.{with_length}
use Rattle.world_laws.specs.World.Parts.{Message, request, packet, ack, response, read_status, recovery_answer}
use Rattle.world_texts.specs.Texts.{CanBeAsked, SpellsText}

-- ACKS

-- an ack's seqno has 64 bits, and its replies are few and listed
pub record AckFits (a : Ack) : Type 0 where
  pub seqno : SFits w64 a.seqno
  pub few : length a.replies ≤ 16
  pub listed : All IsStatus a.replies
  pub low : All (λ s. status_number s < 2 ^ 32) a.replies

zigzag-fits : (z : ℤ) → SFits w64 z → zigzag z < 2 ^ 64
zigzag-fits (pos n) h = omega (arith, h)
zigzag-fits (negsuc n) h = omega (arith, h)

replies-few : (rs : List Status) → All (λ s. status_number s < 2 ^ 32) rs → length (flat_map reply_text rs) ≤ 6 * length rs
unfolding reply_text
replies-few [] low = omega arith
replies-few (s ∷ rs) low =
    omega (
      arith,
      length-append (reply_text s) (flat_map reply_text rs),
      varint_field_few 2 (status_number s) (omega arith) (low 0 s (omega arith)),
      replies-few rs (λ k d h. low (suc k) d (omega arith)),
    )

message-few : (a : Ack) → AckFits a → length (ack_message a) ≤ 107
unfolding ack_message
message-few a h =
    omega (arith, length-append (varint_field 1 (zigzag a.seqno)) (flat_map reply_text a.replies), varint_field_most 1 (zigzag a.seqno) (omega arith) (zigzag-fits a.seqno h.seqno), replies-few a.replies h.low, h.few)

pub ack-spelled : (a : Ack) → AckFits a → SpellsAck a (ack_text a)
ack-spelled a h = ack_text_spells a h.few h.listed (zigzag-fits a.seqno h.seqno) h.low (message-few a h)

-- RESPONSES

-- A response's status is listed, its texts are well within the limit, and its sums have their widths.
pub record ResponseFits (r : Response) : Type 0 where
  pub listed : IsStatus r.status
  pub low : status_number r.status < 2 ^ 32
  pub no_link : IsSome r.sums_from → r.first_bad ≡ []
  pub kind : HasListedKind r.sums_from
  pub widths : HasWidths r.sums_from
  pub few : length r.first_bad + length r.message ≤ 65000

pub response-spelled : (r : Response) → ResponseFits r → SpellsResponse r (response_text r)
response-spelled r h =
    response_text_spells r (record { listed = h.listed; no_link = h.no_link; listed_kind = h.kind; within_limit = response_message_few r h.few }) h.low h.widths

-- PACKETS

-- A packet's numbers have 64 bits, its sums are whole, and it is well within the limit.
pub record PacketFits (p : Packet) : Type 0 where
  pub offset : SFits w64 p.offset
  pub seqno : SFits w64 p.seqno
  pub whole : length p.sums % 4 ≡ 0
  pub within : payload_for p + 27 ≤ limit

size-most : (p : Packet) → header_size p.sync ≤ 27
size-most p = go p.sync
  where
    go : (b : Bool) → header_size b ≤ 27
    go true = omega arith
    go false = omega arith

pub packet-spelled : (p : Packet) → PacketFits p → SpellsPacket p (packet_text p)
packet-spelled p h = packet_text_spells p h.offset h.seqno h.whole (omega (arith, h.within, size-most p))

-- WRITE REQUESTS

-- what a request says of a node: short texts, and numbers of 32 bits
pub record NodeFits (n : NodeRef) : Type 0 where
  pub texts : length n.ip + length n.host + length n.uuid ≤ 100
  pub xfer : n.xfer < 2 ^ 32
  pub info : n.info < 2 ^ 32
  pub ipc : n.ipc < 2 ^ 32

abbrev pub NodesFit : List NodeRef → Type 0
NodesFit [] = Unit {0}
NodesFit (n ∷ ns) = NodeFits n × NodesFit ns

-- a write request: short texts, few targets, and numbers that have their widths
pub record WriteFits (f : WriteFields) : Type 0 where
  pub pool : length f.block.pool ≤ 100
  pub client : length f.client ≤ 100
  pub targets : NodesFit f.targets
  pub few : length f.targets ≤ 16
  pub source : IfSome f.source NodeFits
  pub block : f.block.block.0 < 2 ^ 64
  pub stamp : f.block.stamp.0 < 2 ^ 64
  pub bytes : f.block.bytes < 2 ^ 64
  pub numbers : WriteNumbersFit f

each-fits : (ns : List NodeRef) → NodesFit ns → EachFits node_format.fits ns
each-fits [] h = tt
each-fits (n ∷ ns) h = (node_fits n h.0.xfer h.0.info h.0.ipc, each-fits ns h.1)

source-fits : (o : Option NodeRef) → IfSome o NodeFits → IfSome o node_format.fits
source-fits None h = tt
source-fits (Some n) h = node_fits n h.xfer h.info h.ipc

room-few : (ns : List NodeRef) → NodesFit ns → nodes_room ns ≤ 260 * length ns
room-few [] h = omega arith
room-few (n ∷ ns) h = omega (arith, h.0.texts, room-few ns h.1)

source-few : (o : Option NodeRef) → IfSome o NodeFits → source_room o ≤ 260
source-few None h = omega arith
source-few (Some n) h = omega (arith, h.texts)

spelled-op : (r : Op) → OpFits r → IsLawfulStep r → length (op_message r) ≤ 65536 → SpellsOp r (op_text r)
spelled-op r fits step few = request_spelled {E = Op} (Ok r) r fits step few

pub write-spelled : (f : WriteFields) → WriteFits f → SpellsOp (op.Write f) (op_text (op.Write f))
write-spelled f h =
    spelled-op (op.Write f) (write_fits f (block_fits f.block h.block h.stamp h.bytes) (each-fits f.targets h.targets) (source-fits f.source h.source) h.numbers) tt
    (op_few (op.Write f) (omega (arith, h.pool, h.client, h.few, room-few f.targets h.targets, source-few f.source h.source)))

-- RECOVERIES

-- a request of a recovery
pub record RecoveryFits (r : RecoveryOp) : Type 0 where
  pub pool : length r.block.pool ≤ 100
  pub block : r.block.block.0 < 2 ^ 64
  pub stamp : r.block.stamp.0 < 2 ^ 64
  pub bytes : r.block.bytes < 2 ^ 64
  pub recovery : r.recovery.0 < 2 ^ 64
  pub length_fits : r.new_length < 2 ^ 64
  pub its_length : HasItsLength r.kind r.new_length
  pub its_targets : HasItsTargets r.kind r.targets
  pub targets : r.targets ≡ []

pub recovery-spelled : (r : RecoveryOp) → RecoveryFits r → SpellsOp (op.Recovery r) (op_text (op.Recovery r))
recovery-spelled r h =
    let none : nodes_room r.targets ≡ 0 = ap nodes_room h.targets in
    let each : EachFits node_format.fits r.targets = subst (EachFits node_format.fits) (sym h.targets) tt in
    spelled-op (op.Recovery r) (recovery_fits r (block_fits r.block h.block h.stamp h.bytes) h.recovery h.length_fits each) (h.its_length, h.its_targets) (op_few (op.Recovery r) (omega (arith, h.pool, none)))

pub record AnswerFits (a : RecoveryAnswer) : Type 0 where
  pub listed : IsStatus a.status
  pub low : status_number a.status < 2 ^ 32
  pub info : InfoFits a.info
  pub few : length a.message ≤ 65000

written-answer : IsWritten answer_format
unfolding answer_format
written-answer = written_by_table answer_table answer_from answer_to_encode (omega arith, omega arith, (omega arith, omega arith, (omega arith, omega arith, (omega arith, omega arith, (omega arith, omega arith, tt))))) tt

pub answer-spelled : (a : RecoveryAnswer) → AnswerFits a → SpellsAnswer a (answer_text a)
answer-spelled a h =
    let few : length (answer_format.text a) ≤ 65536 = answer_few a h.few in
    record {
      prefix = least_varint (length (answer_format.text a));
      message = answer_format.text a;
      parts = refl;
      spelled = least_varint_spells (length (answer_format.text a)) (omega (arith, few));
      few = few;
      holds = written-answer.says a (answer_fits a h.listed h.low h.info) (omega (arith, few));
    }

-- READS

-- the text of a number in field 1 spells it
one-spelled : (n : ℕ) → n < 2 ^ 64 → Spells ((1, wire.Varint n) ∷ []) (varint_field 1 n)
one-spelled n fits = subst (Spells ((1, wire.Varint n) ∷ [])) (append-nil (varint_field 1 n)) (SpellsFrom-cons 0 (1, wire.Varint n) [] (varint_field 1 n) [] (varint_field_spells 0 1 n (omega arith) (omega arith) fits) refl)

pub status-spelled : (s : Status) → IsStatus s → status_number s < 2 ^ 32 → SpellsReadStatus s (with_length (varint_field 1 (status_number s)))
status-spelled s listed low =
    let few : length (varint_field 1 (status_number s)) ≤ 20 = varint_field_within 1 (status_number s) in
    record {
      prefix = least_varint (length (varint_field 1 (status_number s)));
      message = varint_field 1 (status_number s);
      parts = refl;
      spelled = least_varint_spells (length (varint_field 1 (status_number s))) (omega (arith, few));
      few = omega (arith, few);
      holds = record {
        fields = (1, wire.Varint (status_number s)) ∷ [];
        spelled = one-spelled (status_number s) (omega (arith, low));
        number = status_number s;
        number_is = refl;
        decoded = sym (decoded_status_number s listed low);
      };
    }

pub read-spelled : (r : ReadOp) → CanBeAsked r → SpellsOp (op.Read r) (op_text (op.Read r))
read-spelled r h = spelled-op (op.Read r) h.fits tt h.encodable.within_limit

-- MESSAGES

-- the values of a message fit
abbrev pub OpValuesFit : Op → Type 0
OpValuesFit (op.Write f) = WriteFits f
OpValuesFit (op.Read r) = CanBeAsked r
OpValuesFit (op.Recovery r) = RecoveryFits r
OpValuesFit (op.Transfer t) = ⊥
OpValuesFit (op.Checksum c) = ⊥

abbrev pub MessageFits : Message → Type 0
MessageFits (request r) = OpValuesFit r
MessageFits (packet p) = PacketFits p
MessageFits (ack a) = AckFits a
MessageFits (response r) = ResponseFits r
MessageFits (read_status s) = IsStatus s × (status_number s < 2 ^ 32)
MessageFits (recovery_answer a) = AnswerFits a

op-spelled : (r : Op) → OpValuesFit r → SpellsOp r (op_text r)
op-spelled (op.Write f) h = write-spelled f h
op-spelled (op.Read r) h = read-spelled r h
op-spelled (op.Recovery r) h = recovery-spelled r h
op-spelled (op.Transfer t) h = absurd h
op-spelled (op.Checksum c) h = absurd h

pub message-spelled : (m : Message) → MessageFits m → SpellsText m
message-spelled (request r) h = op-spelled r h
message-spelled (packet p) h = packet-spelled p h
message-spelled (ack a) h = ack-spelled a h
message-spelled (response r) h = response-spelled r h
message-spelled (read_status s) h = status-spelled s h.0 h.1
message-spelled (recovery_answer a) h = answer-spelled a h
