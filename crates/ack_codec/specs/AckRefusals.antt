-- Why bytes are no ack and no read status, apart from reading.
use Rattle.std.specs.Prelude.{◌≡◌, ℕ, ◌<◌, ◌⊎◌, List, length, Some, None}
use Rattle.proto_fields.specs.Fields.{Spells, FirstFault}
use Rattle.proto_fields.specs.Values.{last_varint}
use Rattle.proto_fields.specs.declared.reading.Wire.{Wire}
use Rattle.proto_fields.specs.declared.reading.WireFault.{WireFault}
use Rattle.ack_codec.specs.declared.faults.AckFault.{AckFault}
use Rattle.ack_codec.specs.declared.faults.AckFault.TheVariants as fault
use Rattle.proto_fields.specs.Frames.{IsCutFrame, IsTooLong, IsLongPrefix}
use Rattle.proto_fields.specs.Framed.{HasSome}
use Rattle.ack_codec.specs.Packed.{Repeats, FirstPackedFault}

-- The fields are whole, and the first fault stands in a packed list of replies.
pub record FaultyReplies (e : WireFault) (message : List ℕ) : Type 0 where
  pub fields : List (ℕ × Wire)
  pub spelled : Spells fields message
  pub found : FirstPackedFault 2 message fields e

-- The fields and the replies are whole, and the first fault stands in a packed list of flags.
pub record FaultyFlags (e : WireFault) (message : List ℕ) : Type 0 where
  pub fields : List (ℕ × Wire)
  pub spelled : Spells fields message
  pub replies : List ℕ
  pub replied : Repeats 2 message fields replies
  pub found : FirstPackedFault 4 message fields e

-- The message's own fault comes first, then one in its replies, and then one in its flags.
abbrev pub IsFaultyAck : WireFault → List ℕ → Type 0
IsFaultyAck e message = FirstFault message e ⊎ (FaultyReplies e message ⊎ FaultyFlags e message)

-- All of the message is whole, and it has no seqno, which is field 1.
pub record LacksSeqno (field : ℕ) (message : List ℕ) : Type 0 where
  pub field_is : field ≡ 1
  pub fields : List (ℕ × Wire)
  pub spelled : Spells fields message
  pub replies : List ℕ
  pub replied : Repeats 2 message fields replies
  pub flags : List ℕ
  pub flagged : Repeats 4 message fields flags
  pub none : last_varint 1 fields ≡ None

-- All of the message is whole and there, and it has so many replies, which are over 16.
pub record HasManyReplies (count : ℕ) (message : List ℕ) : Type 0 where
  pub fields : List (ℕ × Wire)
  pub spelled : Spells fields message
  pub seqno : ℕ
  pub seqno_is : last_varint 1 fields ≡ Some seqno
  pub replies : List ℕ
  pub replied : Repeats 2 message fields replies
  pub flags : List ℕ
  pub flagged : Repeats 4 message fields flags
  pub count_is : count ≡ length replies
  pub many : 16 < count

-- This is why the bytes are no ack.
abbrev pub IsRefusedAck : AckFault → List ℕ → Type 0
IsRefusedAck fault.Short bytes = IsCutFrame bytes
IsRefusedAck (fault.TooLong n) bytes = IsTooLong n bytes
IsRefusedAck (fault.Wire e) bytes = IsLongPrefix 0 e bytes ⊎ HasSome (IsFaultyAck e) bytes
IsRefusedAck (fault.Missing field) bytes = HasSome (LacksSeqno field) bytes
IsRefusedAck (fault.Replies count) bytes = HasSome (HasManyReplies count) bytes

-- The message is whole and has no status, which is field 1.
pub record LacksReadStatus (field : ℕ) (message : List ℕ) : Type 0 where
  pub field_is : field ≡ 1
  pub fields : List (ℕ × Wire)
  pub spelled : Spells fields message
  pub none : last_varint 1 fields ≡ None

-- This is why the bytes are no read status.
abbrev pub IsRefusedReadStatus : AckFault → List ℕ → Type 0
IsRefusedReadStatus fault.Short bytes = IsCutFrame bytes
IsRefusedReadStatus (fault.TooLong n) bytes = IsTooLong n bytes
IsRefusedReadStatus (fault.Wire e) bytes = IsLongPrefix 0 e bytes ⊎ HasSome (λ message. FirstFault message e) bytes
IsRefusedReadStatus (fault.Missing field) bytes = HasSome (LacksReadStatus field) bytes
IsRefusedReadStatus (fault.Replies count) bytes = ⊥
