-- What `block_recovery` has, passed on to the crates above.
pub use Rattle.block_recovery.specs.Actions
pub use Rattle.block_recovery.specs.Awaiting
pub use Rattle.block_recovery.specs.Dialling
pub use Rattle.block_recovery.specs.Exchanging
pub use Rattle.block_recovery.specs.Steps
pub use Rattle.block_recovery.specs.declared.links.Link
pub use Rattle.block_recovery.specs.declared.links.Seat
pub use Rattle.block_recovery.specs.declared.primary.Primary
pub use Rattle.block_recovery.specs.declared.primary.PrimaryStep
