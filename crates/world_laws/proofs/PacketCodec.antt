-- What `packet_codec` has, passed on to the crates above.
pub use Rattle.world.proofs.PacketCodec.WrittenLemmas
