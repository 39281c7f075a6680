-- A packet of a read can be written.
use Rattle.packet_codec.specs.Packets.{IsEncodable}
use Rattle.visible_read.proofs.PacketLemmas.{packet-fits}
use Rattle.visible_read.proofs.packets.written.Goals as goal

fits : (c : goal.After-text-1) → IsEncodable c.in_ok-packet.packet
fits c = rw c.in_ok-packet.ensures (packet-fits c.args.core.now _ (rw c.in_ok-from_vec.ensures.ok (rw c.requires.whole (rw c.piece_len-few.ensures.value at c.piece_len-few.ensures.few))))

pub encode_packet-requires-clause-whole : goal.encode_packet-requires-clause-whole
encode_packet-requires-clause-whole c = (fits c).whole

pub encode_packet-requires-clause-within : goal.encode_packet-requires-clause-within
encode_packet-requires-clause-within c = (fits c).within
