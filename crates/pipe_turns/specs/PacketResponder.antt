-- What `packet_responder` has, passed on to the crates above.
pub use Rattle.packet_responder.specs.Sendings
pub use Rattle.packet_responder.specs.declared.sendings.Sending
