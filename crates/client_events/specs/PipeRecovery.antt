-- What `pipe_recovery` has, passed on to the crates above.
pub use Rattle.pipe_recovery.specs.Dialling
pub use Rattle.pipe_recovery.specs.Steps
pub use Rattle.pipe_recovery.specs.declared.links.Link
pub use Rattle.pipe_recovery.specs.declared.rebuilding.Rebuild
