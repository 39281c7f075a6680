-- What `ack_codec` has, passed on to the crates above.
pub use Rattle.ack_codec.proofs.AckTextLemmas
pub use Rattle.ack_codec.proofs.ResponseTextLemmas
