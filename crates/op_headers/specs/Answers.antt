-- Answers to steps of block recovery: what a message says, why bytes are no answer, the function that reads, and the written text.
use Rattle.std.specs.Prelude.{◌≡◌, ℕ, ◌==◌, if◌then◌else◌, ◌⊎◌, List, [], ◌∷◌, ◌++◌, length, drop, ◌≤◌, slice_index, Option, Some, None, Result, Ok, Err}
use Rattle.hd_base.specs.declared.states.ReplicaState.{ReplicaState}
use Rattle.hd_base.specs.declared.states.ReplicaState.TheVariants as state
use Rattle.hd_base.specs.declared.numbers.Stamp.{Stamp}
use Rattle.hd_base.specs.Wire.{status_number, state_number, IsStatus}
use Rattle.hd_base.specs.Results.{◌>>=◌, with_cause}
use Rattle.proto_fields.specs.Varint.{least_varint}
use Rattle.proto_fields.specs.Writing.{varint_field}
use Rattle.proto_fields.specs.Frames.{limit, IsCutFrame, IsTooLong, IsLongPrefix}
use Rattle.proto_fields.specs.Framed.{FramesSome, HasSome, framed_at, frame_cause}
use Rattle.proto_fields.specs.declared.frames.FrameFault.{FrameFault}
use Rattle.hd_base.specs.Wire.{decoded_status}
use Rattle.op_headers.specs.declared.answers.RecoveryAnswer.{RecoveryAnswer}
use Rattle.op_headers.specs.declared.faults.AnswerFault.{AnswerFault}
use Rattle.op_headers.specs.declared.faults.AnswerFault.TheVariants as fault
use Rattle.op_headers.specs.Paths.{Path}
use Rattle.op_headers.specs.Tables.{if_there, Uint64, Below, uint32, Required, Default, Optional, Format, Table, End, Number, Text, DecodedFields, FieldsToEncode, by_table}

-- ---- the message

-- RecoveryAnswerProto: status, message, state (0 to 4), stamp, length
abbrev pub answer_table : Table
answer_table = Number 1 uint32 Required
    (Text 2 (Default []) (Number 3 (Below 5) Optional (Number 4 Uint64 Optional (Number 5 Uint64 Optional End))))

-- the state with this number, the last from 4 on
abbrev pub state_with : ℕ → ReplicaState
state_with n =
    if n == 0 then state.Finalized
    else if n == 1 then state.Rbw
    else if n == 2 then state.Rwr
    else if n == 3 then state.Rur
    else state.Temporary

-- what is decoded of a replica, where all of it is there
abbrev pub info_from : Option ℕ → Option ℕ → Option ℕ → Option (ReplicaState × Stamp × ℕ)
info_from (Some s) (Some stamp) (Some n) = Some (state_with s, record { 0 = stamp }, n)
info_from _ _ _ = None

abbrev pub answer_from : DecodedFields answer_table → RecoveryAnswer
answer_from v = record { status = decoded_status v.0; message = v.1.0; info = info_from v.1.1.0 v.1.1.1.0 v.1.1.1.1.0 }

-- an empty text isn't written
abbrev pub message_to_encode : List ℕ → Option (List ℕ)
message_to_encode [] = None
message_to_encode (b ∷ bs) = Some (b ∷ bs)

abbrev pub state_to_encode : Option (ReplicaState × Stamp × ℕ) → Option ℕ
state_to_encode None = None
state_to_encode (Some i) = Some (state_number i.0)

abbrev pub stamp_to_encode : Option (ReplicaState × Stamp × ℕ) → Option ℕ
stamp_to_encode None = None
stamp_to_encode (Some i) = Some i.1.0

abbrev pub answer_length_to_encode : Option (ReplicaState × Stamp × ℕ) → Option ℕ
answer_length_to_encode None = None
answer_length_to_encode (Some i) = Some i.2

abbrev pub answer_to_encode : RecoveryAnswer → FieldsToEncode answer_table
answer_to_encode a = (
  status_number a.status,
  (
    message_to_encode a.message,
    (
      state_to_encode a.info,
      (stamp_to_encode a.info, (answer_length_to_encode a.info, tt)),
    ),
  ),
)

-- state, stamp and length, where they are there
abbrev pub info_text : Option (ReplicaState × Stamp × ℕ) → List ℕ
info_text info = if_there (varint_field 3) (state_to_encode info) ++
    (if_there (varint_field 4) (stamp_to_encode info) ++ if_there (varint_field 5) (answer_length_to_encode info))

unfoldable pub answer_format : Format RecoveryAnswer
answer_format = by_table answer_table answer_from answer_to_encode

-- The bytes are the frame of a message that says the answer.
abbrev pub SpellsAnswer : RecoveryAnswer → List ℕ → Type 0
SpellsAnswer answer bytes = FramesSome (λ message. answer_format.says message (Ok answer)) bytes

-- ---- why bytes are no answer

-- All of the message is whole, and it lacks this field of its own.
pub record LacksAnswerField (field : ℕ) (message : List ℕ) : Type 0 where
  pub path : Path
  pub says : answer_format.says message (Err path)
  pub field_is : field ≡ slice_index path 0

abbrev pub IsRefusedAnswer : AnswerFault → List ℕ → Type 0
IsRefusedAnswer fault.Short bytes = IsCutFrame bytes
IsRefusedAnswer (fault.TooLong n) bytes = IsTooLong n bytes
IsRefusedAnswer (fault.Wire e) bytes = IsLongPrefix 0 e bytes ⊎
    HasSome (λ message. answer_format.faulty message e) bytes
IsRefusedAnswer (fault.Missing field) bytes = HasSome (LacksAnswerField field) bytes
IsRefusedAnswer fault.Memory bytes = ⊥

-- ---- reading

abbrev pub missing_field : Path → AnswerFault
missing_field path = fault.Missing (slice_index path 0)

unfoldable pub answer_of : List ℕ → Result RecoveryAnswer AnswerFault
answer_of message = with_cause fault.Wire (answer_format.read message) >>= with_cause missing_field

-- the fault of an answer's frame
abbrev pub answer_frame_cause : FrameFault → AnswerFault
answer_frame_cause = frame_cause fault.Short fault.TooLong fault.Wire 0

-- The answer at the front of the bytes, and how many bytes it has.
abbrev pub answer_at : List ℕ → Result (RecoveryAnswer × ℕ) AnswerFault
answer_at bytes = framed_at answer_frame_cause answer_of bytes

-- ---- writing

abbrev pub answer_text : RecoveryAnswer → List ℕ
answer_text answer = least_varint (length (answer_format.text answer)) ++ answer_format.text answer

-- The answer has a written spelling: its status is no Other in place of one that is listed, and its message is within the limit.
pub record IsEncodable (answer : RecoveryAnswer) : Type 0 where
  pub listed : IsStatus answer.status
  pub within_limit : length (answer_format.text answer) ≤ limit

-- Where the old bytes end the answer is read, whatever follows the new bytes.
abbrev pub ReadsAnswer : List ℕ → List ℕ → RecoveryAnswer → Type 0
ReadsAnswer old new answer = (rest : List ℕ) →
    answer_at (drop (length old) (new ++ rest)) ≡ Ok (answer, length (answer_text answer))
