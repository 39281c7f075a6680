-- What `read_core` has, passed on to the crates above.
pub use Rattle.visible_read.specs.ReadCore.ServePhase
pub use Rattle.visible_read.specs.ReadCore.Servings
