-- What `packet_responder` has, passed on to the crates above.
pub use Rattle.pipe_turns.specs.PacketResponder.Sending
pub use Rattle.pipe_turns.specs.PacketResponder.Sendings
