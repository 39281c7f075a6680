-- Acks (PipelineAckProto): what a message says, apart from reading, and the function that reads.
use Rattle.std.specs.Prelude.{◌≡◌, ℕ, ◌/◌, ◌%◌, ◌≤◌, ◌==◌, nat_lt, if◌then◌else◌, List, map, length, fold, Some, None, Result, Ok, Err, ℤ, pos, negsuc}
use Rattle.hd_base.specs.declared.states.Status.{Status}
use Rattle.hd_base.specs.Results.{◌>>=◌, with_cause, with_value}
use Rattle.proto_fields.specs.Fields.{Spells, fields_at}
use Rattle.proto_fields.specs.Values.{newer, varint_of, last_varint}
use Rattle.proto_fields.specs.declared.reading.Wire.{Wire}
use Rattle.ack_codec.specs.declared.acks.Ack.{Ack}
use Rattle.ack_codec.specs.declared.reading.FoundAck.{FoundAck}
use Rattle.proto_fields.specs.declared.frames.FrameFault.{FrameFault}
use Rattle.ack_codec.specs.declared.faults.AckFault.{AckFault}
use Rattle.ack_codec.specs.declared.faults.AckFault.TheVariants as fault
use Rattle.hd_base.specs.Wire.{decoded_status}
use Rattle.proto_fields.specs.Framed.{FramesSome, framed_at, frame_cause}
use Rattle.ack_codec.specs.Required.{required}
use Rattle.ack_codec.specs.Packed.{Repeats}
use Rattle.ack_codec.specs.Tallies.{empty_tally, newer_tally}

-- the signed number that a zigzag number stands for: 0, 1, 2, 3 are 0, -1, 1, -2
abbrev pub unzigzag : ℕ → ℤ
unzigzag n = if n % 2 == 0 then pos (n / 2) else negsuc (n / 2)

-- The message says the ack: seqno in field 1 by its last value, replies in field 2, and flags in field 4, which are whole but not kept.
pub record SaysAck (ack : Ack) (message : List ℕ) : Type 0 where
  pub fields : List (ℕ × Wire)
  pub spelled : Spells fields message
  pub seqno : ℕ
  pub seqno_is : last_varint 1 fields ≡ Some seqno
  pub replies : List ℕ
  pub replied : Repeats 2 message fields replies
  pub few : length replies ≤ 16
  pub flags : List ℕ
  pub flagged : Repeats 4 message fields flags
  pub decoded : ack ≡ record { seqno = unzigzag seqno; replies = map decoded_status replies }

-- The bytes are the frame of a message that says the ack.
abbrev pub SpellsAck : Ack → List ℕ → Type 0
SpellsAck ack bytes = FramesSome (SaysAck ack) bytes

-- The message says the status, in field 1 by its last value.
pub record SaysReadStatus (status : Status) (message : List ℕ) : Type 0 where
  pub fields : List (ℕ × Wire)
  pub spelled : Spells fields message
  pub number : ℕ
  pub number_is : last_varint 1 fields ≡ Some number
  pub decoded : status ≡ decoded_status number

abbrev pub SpellsReadStatus : Status → List ℕ → Type 0
SpellsReadStatus status bytes = FramesSome (SaysReadStatus status) bytes

-- ---- reading

-- no field so far
abbrev pub none_found : FoundAck
none_found = record { seqno = None; replies = Ok empty_tally; flags = Ok empty_tally }

-- what is found once this field is behind
abbrev pub newer_found : List ℕ → FoundAck → ℕ × Wire → FoundAck
newer_found bytes found f = record {
  seqno = newer varint_of 1 found.seqno f;
  replies = newer_tally 2 bytes found.replies f;
  flags = newer_tally 4 bytes found.flags f;
}

-- The ack that the fields spell: a fault in the packed replies, one in the packed flags, a missing seqno, and too many replies.
unfoldable pub ack_from : FoundAck → Result Ack AckFault
ack_from found = do
  replies ← with_cause fault.Wire found.replies
  flags ← with_cause fault.Wire found.flags
  seqno ← required fault.Missing 1 found.seqno
  if nat_lt 16 replies.count then Err (fault.Replies replies.count)
      else Ok (record { seqno = unzigzag seqno; replies = replies.kept })

-- what the fields of a message have
abbrev pub found_in : List ℕ → List (ℕ × Wire) → FoundAck
found_in bytes fs = fold (newer_found bytes) none_found fs

-- The ack that a message says.
abbrev pub ack_of : List ℕ → Result Ack AckFault
ack_of message = with_cause fault.Wire (fields_at message) >>= λ fs. ack_from (found_in message fs)

-- the fault of an ack's frame
abbrev pub ack_frame_cause : FrameFault → AckFault
ack_frame_cause = frame_cause fault.Short fault.TooLong fault.Wire 0

-- The ack at the front of the bytes, and how many bytes it has.
abbrev pub ack_at : List ℕ → Result (Ack × ℕ) AckFault
ack_at bytes = framed_at ack_frame_cause ack_of bytes

-- The read status at the front of the bytes, and how many bytes it has.
abbrev pub read_status_of : List ℕ → Result Status AckFault
read_status_of message = with_cause fault.Wire (fields_at message) >>=
    λ fs. with_value decoded_status (required fault.Missing 1 (last_varint 1 fs))

abbrev pub read_status_at : List ℕ → Result (Status × ℕ) AckFault
read_status_at bytes = framed_at ack_frame_cause read_status_of bytes
