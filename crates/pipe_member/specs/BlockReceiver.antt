-- What `block_receiver` has, passed on to the crates above.
pub use Rattle.pipe_turns.specs.BlockReceiver.Packets
pub use Rattle.pipe_turns.specs.BlockReceiver.Taken
