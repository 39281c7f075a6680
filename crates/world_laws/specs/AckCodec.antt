-- What `ack_codec` has, passed on to the crates above.
pub use Rattle.world.specs.AckCodec.Ack
pub use Rattle.world.specs.AckCodec.AckTexts
pub use Rattle.world.specs.AckCodec.Acks
pub use Rattle.world.specs.AckCodec.Response
pub use Rattle.world.specs.AckCodec.ResponseTexts
pub use Rattle.world.specs.AckCodec.Responses
