-- What `packet_stream` has, passed on to the crates above.
pub use Rattle.packet_stream.proofs.CarryLemmas
pub use Rattle.packet_stream.proofs.StreamLemmas
