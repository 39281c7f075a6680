-- The header of a packet: the fields of PacketHeaderProto.
use Rattle.std.specs.Prelude.{ℕ, ◌==◌, ◌++◌, List, [], Bool, true, false, not, if◌then◌else◌, Option, Some, None, Result, Ok, Err}
use Rattle.std.specs.Int.{w32, w64, cast_signed, cast_unsigned}
use Rattle.hd_base.specs.Results.{◌>>=◌, with_cause}
use Rattle.proto_fields.specs.Fields.{fields_at}
use Rattle.proto_fields.specs.Values.{newer, varint_of, fixed64_of, fixed32_of, last_varint, last_fixed64, last_fixed32}
use Rattle.proto_fields.specs.Writing.{varint_field, fixed64_field, fixed32_field}
use Rattle.proto_fields.specs.declared.reading.Wire.{Wire}
use Rattle.packet_codec.specs.declared.headers.Header.{Header}
use Rattle.packet_codec.specs.declared.headers.Found.{Found}
use Rattle.packet_codec.specs.declared.faults.HeaderCause.{HeaderCause}
use Rattle.packet_codec.specs.declared.faults.HeaderCause.TheVariants as cause

-- the last values of the header's fields: offsetInBlock, seqno, lastPacketInBlock, dataLen, syncBlock
abbrev pub found_in : List (ℕ × Wire) → Found
found_in fs = record {
  offset = last_fixed64 1 fs;
  seqno = last_fixed64 2 fs;
  last = last_varint 3 fs;
  data_len = last_fixed32 4 fs;
  sync = last_varint 5 fs;
}

-- none of them yet
abbrev pub none_found : Found
none_found = record { offset = None; seqno = None; last = None; data_len = None; sync = None }

-- the last values once this field is behind
abbrev pub newer_found : Found → ℕ × Wire → Found
newer_found found f = record {
  offset = newer fixed64_of 1 found.offset f;
  seqno = newer fixed64_of 2 found.seqno f;
  last = newer varint_of 3 found.last f;
  data_len = newer fixed32_of 4 found.data_len f;
  sync = newer varint_of 5 found.sync f;
}

-- a required field's value
abbrev pub required : {X : Type 0} → ℕ → Option X → Result X HeaderCause
required field None = Err (cause.Missing field)
required field (Some x) = Ok x

-- a bool is true where its number isn't 0
abbrev pub is_set : ℕ → Bool
is_set n = not (n == 0)

-- an optional bool is false where it isn't there
abbrev pub is_set_if_there : Option ℕ → Bool
is_set_if_there None = false
is_set_if_there (Some n) = is_set n

-- The header that these last values tell, or the first required field that is missing.
unfoldable pub header_from : Found → Result Header HeaderCause
header_from found = do
  offset ← required 1 found.offset
  seqno ← required 2 found.seqno
  last ← required 3 found.last
  data_len ← required 4 found.data_len
  Ok (record {
    offset = cast_signed w64 offset;
    seqno = cast_signed w64 seqno;
    last = is_set last;
    sync = is_set_if_there found.sync;
    data_len = cast_signed w32 data_len;
  })

-- The header that a list of fields tells: unknown fields are skipped, and the last of a repeated one counts.
abbrev pub header_of : List (ℕ × Wire) → Result Header HeaderCause
header_of fs = header_from (found_in fs)

-- The header that a message spells.
abbrev pub header_at : List ℕ → Result Header HeaderCause
header_at bytes = with_cause cause.Wire (fields_at bytes) >>= header_of

-- the number of a bool that is written
abbrev pub flag : Bool → ℕ
flag true = 1
flag false = 0

-- syncBlock, where it is true
abbrev pub sync_text : Bool → List ℕ
sync_text sync = if sync then varint_field 5 1 else []

-- how many bytes a written header has
abbrev pub header_size : Bool → ℕ
header_size sync = if sync then 27 else 25

-- offsetInBlock and seqno, in two's complement
unfoldable pub places_text : ℕ → ℕ → List ℕ
places_text offset seqno = fixed64_field 1 offset ++ fixed64_field 2 seqno

-- lastPacketInBlock, dataLen in two's complement, and syncBlock
unfoldable pub marks_text : Bool → ℕ → Bool → List ℕ
marks_text last data_len sync = varint_field 3 (flag last) ++ (fixed32_field 4 data_len ++ sync_text sync)

-- The written spelling of a header: 25 bytes, or 27 where syncBlock is there, which is written only where it is true.
unfoldable pub header_text : Header → List ℕ
header_text h = places_text (cast_unsigned w64 h.offset) (cast_unsigned w64 h.seqno) ++
    marks_text h.last (cast_unsigned w32 h.data_len) h.sync
