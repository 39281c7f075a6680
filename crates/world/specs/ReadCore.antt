-- What `read_core` has, passed on to the crates above.
pub use Rattle.read_core.specs.Readings
pub use Rattle.read_core.specs.Servings
pub use Rattle.read_core.specs.declared.reading.FromNode
pub use Rattle.read_core.specs.declared.reading.ReadFault
pub use Rattle.read_core.specs.declared.reading.ReadPhase
pub use Rattle.read_core.specs.declared.reading.ReadTurn
pub use Rattle.read_core.specs.declared.serving.ServePhase
