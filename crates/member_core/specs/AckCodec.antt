-- What `ack_codec` has, passed on to the crates above.
pub use Rattle.ack_codec.specs.AckTexts
pub use Rattle.ack_codec.specs.Acks
pub use Rattle.ack_codec.specs.ResponseTexts
pub use Rattle.ack_codec.specs.Responses
pub use Rattle.ack_codec.specs.declared.acks.Ack
pub use Rattle.ack_codec.specs.declared.responses.Response
