-- What `packet_stream` has, passed on to the crates above.
pub use Rattle.world.specs.PacketStream.Extents
pub use Rattle.world.specs.PacketStream.Streams
pub use Rattle.world.specs.PacketStream.TheConstants
