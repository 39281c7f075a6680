-- What `packet_codec` has, passed on to the crates above.
pub use Rattle.world.specs.PacketCodec.Frames
pub use Rattle.world.specs.PacketCodec.Headers
pub use Rattle.world.specs.PacketCodec.Packet
pub use Rattle.world.specs.PacketCodec.Packets
