-- Where the parts of a packet lie.
use Rattle.std.specs.Prelude.{ℕ, List, take, drop}
use Rattle.packet_codec.specs.Packets.{packet_of}
use Rattle.packet_codec.specs.declared.packets.Packet.{Packet}
use Rattle.packet_codec.specs.declared.parts.PacketParts.{PacketParts}

-- the data behind the header: the sums and the body
abbrev pub data_of : List ℕ → PacketParts → List ℕ
data_of bytes p = drop p.data_at (take p.size bytes)

-- the packet whose parts lie so in these bytes, and how many bytes it has
abbrev pub packet_in : List ℕ → PacketParts → Packet × ℕ
packet_in bytes p = (packet_of p.header (data_of bytes p) p.sums, p.size)
