-- What `read_core` has, passed on to the crates above.
pub use Rattle.read_core.specs.Servings
pub use Rattle.read_core.specs.declared.serving.ServePhase
