-- What `packet_stream` has, passed on to the crates above.
pub use Rattle.world_laws.specs.PacketStream.Streams
