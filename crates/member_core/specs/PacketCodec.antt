-- What `packet_codec` has, passed on to the crates above.
pub use Rattle.packet_codec.specs.Frames
pub use Rattle.packet_codec.specs.Headers
pub use Rattle.packet_codec.specs.Packets
pub use Rattle.packet_codec.specs.declared.packets.Packet
