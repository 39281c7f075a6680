-- Packets: the bytes that spell one, apart from reading, and the function that reads.
use Rattle.std.specs.Prelude.{◌≡◌, ℕ, ◌+◌, ◌-◌, ◌%◌, ◌^◌, ◌<◌, ◌≤◌, ◌==◌, nat_lt, if◌then◌else◌, List, ◌++◌, length, take, drop, Result, Ok, Err, ℤ, pos, negsuc, ◌-ℤ◌}
use Rattle.std.specs.Int.{w16, w32, to_be_bytes}
use Rattle.hd_base.specs.Results.{◌>>=◌, with_cause}
use Rattle.proto_fields.specs.Fields.{Spells}
use Rattle.proto_fields.specs.declared.reading.Wire.{Wire}
use Rattle.packet_codec.specs.Headers.{header_of, header_at, header_text, header_size}
use Rattle.packet_codec.specs.Frames.{limit, frame_at}
use Rattle.packet_codec.specs.declared.headers.Header.{Header}
use Rattle.packet_codec.specs.declared.packets.Packet.{Packet}
use Rattle.packet_codec.specs.declared.faults.PacketFault.{PacketFault}
use Rattle.packet_codec.specs.declared.faults.PacketFault.TheVariants as fault

-- what a packet's header says of it
abbrev pub header_for : Packet → Header
header_for m = record {
  offset = m.offset;
  seqno = m.seqno;
  last = m.last;
  sync = m.sync;
  data_len = pos (length m.body);
}

-- the payload's length: its own four bytes, the sums and the body
abbrev pub payload_for : Packet → ℕ
payload_for m = 4 + length m.sums + length m.body

-- The sums are of four bytes each, the header's length has two bytes, and payload and header are within the limit.
pub record IsWritable (m : Packet) (header : ℕ) : Type 0 where
  pub whole : length m.sums % 4 ≡ 0
  pub short : header < 2 ^ 16
  pub within : payload_for m + header ≤ limit

-- Payload and header are within the limit, and the sums are of four bytes each: the packet has a written spelling.
pub record IsEncodable (m : Packet) : Type 0 where
  pub whole : length m.sums % 4 ≡ 0
  pub within : payload_for m + header_size m.sync ≤ limit

-- The bytes are the packet's frame, with a header in some spelling.
pub record SpellsPacket (m : Packet) (bytes : List ℕ) : Type 0 where
  pub header : List ℕ
  pub fields : List (ℕ × Wire)
  pub spelled : Spells fields header
  pub decoded : header_of fields ≡ Ok (header_for m)
  pub writable : IsWritable m (length header)
  pub parts : bytes ≡ to_be_bytes w32 (payload_for m) ++
      (to_be_bytes w16 (length header) ++ (header ++ (m.sums ++ m.body)))

-- the two lengths as they are written
unfoldable pub lengths_text : ℕ → ℕ → List ℕ
lengths_text payload header = to_be_bytes w32 payload ++ to_be_bytes w16 header

-- the lengths and the header as they are written
unfoldable pub front_text : ℕ → Header → List ℕ
front_text payload h = lengths_text payload (header_size h.sync) ++ header_text h

-- The written spelling.
abbrev pub packet_text : Packet → List ℕ
packet_text m = front_text (payload_for m) (header_for m) ++ (m.sums ++ m.body)

-- How many bytes of the data are sums, where the header says that so many are the body. SumCount comes where the rest is negative or no multiple of 4, or the body's length is negative.
unfoldable pub sums_within : ℕ → ℤ → Result ℕ PacketFault
sums_within available (pos n) =
    if nat_lt available n then Err (fault.SumCount (pos available -ℤ pos n))
    else if (available - n) % 4 == 0 then Ok (available - n) else Err (fault.SumCount (pos (available - n)))
sums_within available (negsuc n) = Err (fault.SumCount (pos available -ℤ negsuc n))

-- the packet of a header, its sums and its body
abbrev pub packet_with : Header → List ℕ → List ℕ → Packet
packet_with h sums body = record {
  offset = h.offset;
  seqno = h.seqno;
  last = h.last;
  sync = h.sync;
  sums = sums;
  body = body;
}

-- the packet of a header and its data, cut behind the sums
abbrev pub packet_of : Header → List ℕ → ℕ → Packet
packet_of h data_bytes sums = packet_with h (take sums data_bytes) (drop sums data_bytes)

-- The packet at the front of the bytes, and how many bytes it has.
unfoldable pub packet_at : List ℕ → Result (Packet × ℕ) PacketFault
packet_at bytes = do
  frame ← frame_at bytes
  header ← with_cause fault.Header (header_at frame.header)
  sums ← sums_within (length frame.rest) header.data_len
  Ok (packet_of header frame.rest sums, frame.size)

-- Where the old bytes end the packet is read, whatever follows the new bytes.
abbrev pub ReadsPacket : List ℕ → List ℕ → Packet → Type 0
ReadsPacket old new m = (rest : List ℕ) → packet_at (drop (length old) (new ++ rest)) ≡ Ok (m, length (packet_text m))
