-- What `packet_codec` has, passed on to the crates above.
pub use Rattle.member_core.proofs.PacketCodec.WrittenLemmas
