-- What `read_core` has, passed on to the crates above.
pub use Rattle.world.specs.ReadCore.ReadTurn
pub use Rattle.world.specs.ReadCore.Readings
pub use Rattle.world.specs.ReadCore.ServePhase
pub use Rattle.world.specs.ReadCore.Servings
