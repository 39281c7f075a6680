-- What `block_receiver` has, passed on to the crates above.
pub use Rattle.block_receiver.specs.Packets
pub use Rattle.block_receiver.specs.declared.packets.Taken
