-- What `ack_codec` has, passed on to the crates above.
pub use Rattle.member_core.specs.AckCodec.AckTexts
pub use Rattle.member_core.specs.AckCodec.Response
pub use Rattle.member_core.specs.AckCodec.ResponseTexts
