-- What `link_messages` has, passed on to the crates above.
pub use Rattle.block_recovery.specs.LinkMessages.Incomings
