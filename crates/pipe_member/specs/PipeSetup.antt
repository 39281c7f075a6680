-- What `pipe_setup` has, passed on to the crates above.
pub use Rattle.pipe_setup.specs.Reaching
pub use Rattle.pipe_setup.specs.Requests
pub use Rattle.pipe_setup.specs.Setups
pub use Rattle.pipe_setup.specs.declared.refusals.SetupRefusal
pub use Rattle.pipe_setup.specs.declared.setups.Setup
