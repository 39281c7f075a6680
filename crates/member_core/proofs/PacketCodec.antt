-- What `packet_codec` has, passed on to the crates above.
pub use Rattle.packet_codec.proofs.WrittenLemmas
