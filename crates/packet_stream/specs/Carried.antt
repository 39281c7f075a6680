-- Which bytes of a block a stream and its packets have.
use Rattle.std.specs.Prelude.{ℕ, nat_abs, ◌≡◌, ◌≤◌, List, length, take, drop}
use Rattle.packet_codec.specs.declared.packets.Packet.{Packet}
use Rattle.packet_stream.specs.Streams.{StreamState, start_in, written_in, packet_end}

-- The bytes written are those of the block, and what is kept of them are those from where the next packet begins.
pub record Carries (v : List ℕ) (s : StreamState) : Type 0 where
  pub whole : length v ≡ written_in s
  pub kept : s.tail ≡ drop (start_in s) v

-- A packet's bytes are those of the block where it lies.
pub record IsPiece (v : List ℕ) (p : Packet) : Type 0 where
  pub bytes : p.body ≡ take (length p.body) (drop (nat_abs p.offset) v)
  pub within : packet_end p ≤ length v
