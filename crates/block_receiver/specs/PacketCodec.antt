-- What `packet_codec` has, passed on to the crates above.
pub use Rattle.packet_codec.specs.Packets
pub use Rattle.packet_codec.specs.declared.packets.Packet
