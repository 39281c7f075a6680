-- What `ack_codec` has, passed on to the crates above.
pub use Rattle.pipe_setup.specs.AckCodec.AckTexts
pub use Rattle.pipe_setup.specs.AckCodec.Response
pub use Rattle.pipe_setup.specs.AckCodec.ResponseTexts
pub use Rattle.pipe_setup.specs.AckCodec.Responses
