-- What `packet_stream` has, passed on to the crates above.
pub use Rattle.world.proofs.PacketStream.CarryLemmas
pub use Rattle.world.proofs.PacketStream.StreamLemmas
