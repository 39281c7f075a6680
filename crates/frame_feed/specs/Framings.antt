-- How the length of a message shows at its front, and bytes that end before their message does.
use Rattle.std.specs.Prelude.{ℕ, ◌+◌, ◌-◌, nat_lt, if◌then◌else◌, List, length, drop, Option, Some, None, option_map, Result, Ok, Err}
use Rattle.proto_fields.specs.Varint.{varint_at}
use Rattle.proto_fields.specs.Frames.{IsCutFrame}
use Rattle.proto_fields.specs.declared.varints.VarintFault.{VarintFault}
use Rattle.packet_codec.specs.Frames.{payload_of, header_len_of, frame_len}
use Rattle.packet_codec.specs.Refusals.{IsCutFrame as IsCutPacket}
use Rattle.op_headers.specs.Requests.{IsCutRequest}
use Rattle.frame_feed.specs.declared.framing.Framing.{Framing}
use Rattle.frame_feed.specs.declared.framing.Framing.TheVariants as framing

-- the number of bytes of a length and of the message behind it, in bytes that begin with the length
abbrev pub behind_varint : ℕ → Result (ℕ × List ℕ) VarintFault → Option ℕ
behind_varint size (Ok x) = Some (size - length x.1 + x.0)
behind_varint size (Err e) = None

-- A length as a varint, and so many bytes: how many that are in all, once the length is wholly there.
abbrev pub prefixed_size : List ℕ → Option ℕ
prefixed_size bytes = behind_varint (length bytes) (varint_at bytes)

-- The lengths of payload and header in the first six bytes.
abbrev pub packet_size : List ℕ → Option ℕ
packet_size bytes = if nat_lt (length bytes) 6 then None else Some (frame_len (payload_of bytes) (header_len_of bytes))

-- Version and opcode, and then the length of the message.
abbrev pub request_size : List ℕ → Option ℕ
request_size bytes = if nat_lt (length bytes) 3 then None else option_map (λ n. 3 + n) (prefixed_size (drop 3 bytes))

-- How many bytes the message has that begins so, where the bytes there tell its length.
abbrev pub size_at : Framing → List ℕ → Option ℕ
size_at framing.Packet bytes = packet_size bytes
size_at framing.Request bytes = request_size bytes
size_at framing.Prefixed bytes = prefixed_size bytes

-- The bytes are a proper prefix of a whole message, and what is wholly there of its fixed fields and its lengths is lawful.
abbrev pub IsCut : Framing → List ℕ → Type 0
IsCut framing.Packet bytes = IsCutPacket bytes
IsCut framing.Request bytes = IsCutRequest bytes
IsCut framing.Prefixed bytes = IsCutFrame bytes

-- How many bytes are missing, where the length of the message shows; else one at least.
abbrev pub missing_of : Option ℕ → ℕ → ℕ
missing_of None there = 1
missing_of (Some size) there = size - there

abbrev pub missing : Framing → List ℕ → ℕ
missing f bytes = missing_of (size_at f bytes) (length bytes)
