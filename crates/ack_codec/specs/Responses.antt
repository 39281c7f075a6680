-- Responses (BlockOpResponseProto): what a message says, apart from reading, and the function that reads.
use Rattle.std.specs.Prelude.{◌≡◌, ℕ, ◌%◌, ◌^◌, nat_lt, if◌then◌else◌, List, Option, Some, None, Result, Ok}
use Rattle.hd_base.specs.declared.states.Status.{Status}
use Rattle.hd_base.specs.Results.{◌>>=◌, with_cause, with_value}
use Rattle.proto_fields.specs.Fields.{Spells, fields_at}
use Rattle.proto_fields.specs.Values.{newer, last_of, varint_of, last_varint, last_part}
use Rattle.proto_fields.specs.declared.reading.Wire.{Wire}
use Rattle.proto_fields.specs.declared.reading.Wire.TheVariants as wire
use Rattle.proto_fields.specs.declared.reading.WireFault.{WireFault}
use Rattle.proto_fields.specs.declared.frames.FrameFault.{FrameFault}
use Rattle.ack_codec.specs.declared.faults.ResponseFault.{ResponseFault}
use Rattle.ack_codec.specs.declared.faults.ResponseFault.TheVariants as fault
use Rattle.ack_codec.specs.declared.responses.Response.{Response}
use Rattle.ack_codec.specs.declared.response_reading.FoundSums.{FoundSums}
use Rattle.ack_codec.specs.declared.response_reading.FoundChecksum.{FoundChecksum}
use Rattle.ack_codec.specs.declared.response_reading.FoundInfo.{FoundInfo}
use Rattle.ack_codec.specs.declared.response_reading.FoundResponse.{FoundResponse}
use Rattle.proto_fields.specs.Inner.{joined, FindsInner, inner, text_of}
use Rattle.ack_codec.specs.Required.{required}
use Rattle.hd_base.specs.Wire.{decoded_status}
use Rattle.proto_fields.specs.Framed.{FramesSome, framed_at, frame_cause}

-- ---- what the fields of each message have

-- The number of a kind of sums that is listed: NULL 0, CRC32 1, CRC32C 2. An enum takes the low 32 bits.
abbrev pub listed_kind : Wire → Option ℕ
listed_kind (wire.Varint n) = if nat_lt (n % 2 ^ 32) 3 then Some n else None
listed_kind _ = None

-- OpBlockChecksumResponseProto: bytesPerCrc, crcPerBlock, blockChecksum
abbrev pub sums_in : List (ℕ × Wire) → FoundSums
sums_in fs = record { per_crc = last_varint 1 fs; crcs = last_varint 2 fs; sum = last_part 3 fs }

-- ChecksumProto: type, bytesPerChecksum
abbrev pub checksum_in : List (ℕ × Wire) → FoundChecksum
checksum_in fs = record { kind = last_of listed_kind 1 fs; chunk = last_varint 2 fs }

pub record FindsSums (bytes : List ℕ) (found : FoundSums) : Type 0 where
  pub fields : List (ℕ × Wire)
  pub spelled : Spells fields bytes
  pub decoded : found ≡ sums_in fields

pub record FindsChecksum (bytes : List ℕ) (found : FoundChecksum) : Type 0 where
  pub fields : List (ℕ × Wire)
  pub spelled : Spells fields bytes
  pub decoded : found ≡ checksum_in fields

-- ReadOpChecksumInfoProto: checksum, chunkOffset
pub record FindsInfo (bytes : List ℕ) (found : FoundInfo) : Type 0 where
  pub fields : List (ℕ × Wire)
  pub spelled : Spells fields bytes
  pub checksum : FindsInner FindsChecksum (joined 1 bytes fields) found.checksum
  pub offset_is : found.offset ≡ last_varint 2 fields

-- BlockOpResponseProto: status, firstBadLink, checksumResponse, readOpChecksumInfo, message
pub record FindsResponse (message : List ℕ) (found : FoundResponse) : Type 0 where
  pub fields : List (ℕ × Wire)
  pub spelled : Spells fields message
  pub status_is : found.status ≡ last_varint 1 fields
  pub first_bad_is : found.first_bad ≡ last_part 2 fields
  pub sums : FindsInner FindsSums (joined 3 message fields) found.sums
  pub info : FindsInner FindsInfo (joined 4 message fields) found.info
  pub message_is : found.message ≡ last_part 5 fields

-- ---- what was found, decoded

-- What must be there, in ascending order, a message within before what stands behind it. The fault is the number of the first field that is missing.
unfoldable pub checked_sums : FoundSums → Result (Unit {0}) ℕ
checked_sums found = do
  per_crc ← required (λ n. n) 1 found.per_crc
  crcs ← required (λ n. n) 2 found.crcs
  sum ← required (λ n. n) 3 found.sum
  Ok tt

-- The kind and the chunk's length of a checksum: of an enum and of a uint32 the low 32 bits.
unfoldable pub decoded_checksum : FoundChecksum → Result (ℕ × ℕ) ℕ
decoded_checksum found = do
  kind ← required (λ n. n) 1 found.kind
  chunk ← required (λ n. n) 2 found.chunk
  Ok (kind % 2 ^ 32, chunk % 2 ^ 32)

-- The kind of the sums, the chunk's length, and where in the block they begin.
unfoldable pub decoded_info : FoundInfo → Result (ℕ × ℕ × ℕ) ℕ
decoded_info found = do
  checksum ← required (λ n. n) 1 found.checksum
  sums ← decoded_checksum checksum
  offset ← required (λ n. n) 2 found.offset
  Ok (sums.0, sums.1, offset)

unfoldable pub decoded_parts : FoundResponse → Result (Status × Option (ℕ × ℕ × ℕ)) ℕ
decoded_parts found = do
  number ← required (λ n. n) 1 found.status
  sums ← inner checked_sums found.sums
  sums_from ← inner decoded_info found.info
  Ok (decoded_status number, sums_from)

-- the response with these texts
abbrev pub response_with : List ℕ → FoundResponse → Status × Option (ℕ × ℕ × ℕ) → Response
response_with message found decoded = record {
  status = decoded.0;
  first_bad = text_of message found.first_bad;
  sums_from = decoded.1;
  message = text_of message found.message;
}

-- The message says the response.
pub record SaysResponse (response : Response) (message : List ℕ) : Type 0 where
  pub found : FoundResponse
  pub finds : FindsResponse message found
  pub decoded : Status × Option (ℕ × ℕ × ℕ)
  pub decoded_is : decoded_parts found ≡ Ok decoded
  pub response_is : response ≡ response_with message found decoded

-- The bytes are the frame of a message that says the response.
abbrev pub SpellsResponse : Response → List ℕ → Type 0
SpellsResponse response bytes = FramesSome (SaysResponse response) bytes

-- ---- reading

abbrev pub found_sums_at : List ℕ → Result FoundSums WireFault
found_sums_at bytes = with_value sums_in (fields_at bytes)

abbrev pub found_checksum_at : List ℕ → Result FoundChecksum WireFault
found_checksum_at bytes = with_value checksum_in (fields_at bytes)

abbrev pub info_with : List (ℕ × Wire) → Option FoundChecksum → FoundInfo
info_with fs checksum = record { checksum = checksum; offset = last_varint 2 fs }

abbrev pub info_from : List ℕ → List (ℕ × Wire) → Result FoundInfo WireFault
info_from bytes fs = with_value (info_with fs) (inner found_checksum_at (joined 1 bytes fs))

abbrev pub found_info_at : List ℕ → Result FoundInfo WireFault
found_info_at bytes = fields_at bytes >>= info_from bytes

abbrev pub found_with : List (ℕ × Wire) → Option FoundSums → Option FoundInfo → FoundResponse
found_with fs sums info = record {
  status = last_varint 1 fs;
  first_bad = last_part 2 fs;
  sums = sums;
  info = info;
  message = last_part 5 fs;
}

abbrev pub found_behind_sums : List ℕ → List (ℕ × Wire) → Option FoundSums → Result FoundResponse WireFault
found_behind_sums message fs sums = with_value (found_with fs sums) (inner found_info_at (joined 4 message fs))

abbrev pub found_from : List ℕ → List (ℕ × Wire) → Result FoundResponse WireFault
found_from message fs = inner found_sums_at (joined 3 message fs) >>= found_behind_sums message fs

abbrev pub found_response_at : List ℕ → Result FoundResponse WireFault
found_response_at message = fields_at message >>= found_from message

-- what is left to do once the fields are found
abbrev pub decoded_response : List ℕ → FoundResponse → Result Response ResponseFault
decoded_response message found =
    with_value (response_with message found) (with_cause fault.Missing (decoded_parts found))

-- The response that a message says.
unfoldable pub response_of : List ℕ → Result Response ResponseFault
response_of message = with_cause fault.Wire (found_response_at message) >>= decoded_response message

-- the fault of a response's frame
abbrev pub response_frame_cause : FrameFault → ResponseFault
response_frame_cause = frame_cause fault.Short fault.TooLong fault.Wire 0

-- The response at the front of the bytes, and how many bytes it has.
abbrev pub response_at : List ℕ → Result (Response × ℕ) ResponseFault
response_at bytes = framed_at response_frame_cause response_of bytes

-- no field of a ChecksumProto so far, and what is found once this field is behind
abbrev pub no_checksum : FoundChecksum
no_checksum = record { kind = None; chunk = None }

abbrev pub newer_checksum : FoundChecksum → ℕ × Wire → FoundChecksum
newer_checksum found f = record { kind = newer listed_kind 1 found.kind f; chunk = newer varint_of 2 found.chunk f }
