-- The frame of a packet: the payload length as four bytes, the header length as two, both big-endian, the header, and then the data, which has four bytes less than the payload.
use Rattle.std.specs.Prelude.{ℕ, ◌+◌, ◌-◌, ◌||◌, nat_lt, if◌then◌else◌, List, length, take, drop, Result, Ok, Err}
use Rattle.std.specs.Int.{w16, w32, from_be_bytes}
use Rattle.std.specs.Borrow.{Bor}
use Rattle.packet_codec.specs.declared.faults.PacketFault.{PacketFault}
use Rattle.packet_codec.specs.declared.faults.PacketFault.TheVariants as fault

-- the most bytes that payload and header have together
abbrev pub limit : ℕ
limit = 16777216

-- the two lengths that the first six bytes tell
abbrev pub payload_of : List ℕ → ℕ
payload_of bytes = from_be_bytes w32 (take 4 bytes)

abbrev pub header_len_of : List ℕ → ℕ
header_len_of bytes = from_be_bytes w16 (take 2 (drop 4 bytes))

-- how many bytes the whole frame has
abbrev pub frame_len : ℕ → ℕ → ℕ
frame_len payload header = 6 + header + (payload - 4)

-- the bytes of a frame's header, of its data, and how many bytes the frame has
pub record Frame : Type 0 where
  pub header : List ℕ
  pub rest : List ℕ
  pub size : ℕ

-- the frame with these lengths at the front of the bytes
abbrev pub frame_with : ℕ → ℕ → List ℕ → Frame
frame_with payload header bytes = record {
  header = take header (drop 6 bytes);
  rest = take (payload - 4) (drop header (drop 6 bytes));
  size = frame_len payload header;
}

-- The frame at the front of the bytes: Short for the first six bytes, Length, and Short for the rest.
unfoldable pub frame_at : List ℕ → Result Frame PacketFault
frame_at bytes =
    if nat_lt (length bytes) 6 then Err fault.Short
    else if nat_lt (payload_of bytes) 4 || nat_lt limit (payload_of bytes + header_len_of bytes)
    then Err (fault.Length (payload_of bytes) (header_len_of bytes))
    else if nat_lt (length bytes) (frame_len (payload_of bytes) (header_len_of bytes)) then Err fault.Short
    else Ok (frame_with (payload_of bytes) (header_len_of bytes) bytes)

-- How many bytes the packet at the front has, by its two lengths: Short for the first six bytes, and Length.
unfoldable pub length_at : List ℕ → Result ℕ PacketFault
length_at bytes =
    if nat_lt (length bytes) 6 then Err fault.Short
    else if nat_lt (payload_of bytes) 4 || nat_lt limit (payload_of bytes + header_len_of bytes)
    then Err (fault.Length (payload_of bytes) (header_len_of bytes))
    else Ok (frame_len (payload_of bytes) (header_len_of bytes))

-- a frame as its parts are returned
abbrev pub frame_value : Bor (List ℕ) × Bor (List ℕ) × ℕ → Frame
frame_value f = record { header = f.0.now; rest = f.1.now; size = f.2 }
