-- What `packet_codec` has, passed on to the crates above.
pub use Rattle.member_core.specs.PacketCodec.Frames
pub use Rattle.member_core.specs.PacketCodec.Headers
pub use Rattle.member_core.specs.PacketCodec.Packet
pub use Rattle.member_core.specs.PacketCodec.Packets
