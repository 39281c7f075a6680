-- What `ack_codec` has, passed on to the crates above.
pub use Rattle.world.proofs.AckCodec.AckTextLemmas
pub use Rattle.world.proofs.AckCodec.ResponseTextLemmas
