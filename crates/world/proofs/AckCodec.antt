-- What `ack_codec` has, passed on to the crates above.
pub use Rattle.member_core.proofs.AckCodec.AckTextLemmas
pub use Rattle.member_core.proofs.AckCodec.ResponseTextLemmas
