-- What `read_core` has, passed on to the crates above.
pub use Rattle.world_laws.specs.ReadCore.ReadTurn
pub use Rattle.world_laws.specs.ReadCore.Readings
pub use Rattle.world_laws.specs.ReadCore.ServePhase
pub use Rattle.world_laws.specs.ReadCore.Servings
