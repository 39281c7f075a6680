-- What `read_core` has, passed on to the crates above.
pub use Rattle.read_core.specs.Readings
pub use Rattle.read_core.specs.declared.reading.ReadFault
pub use Rattle.read_core.specs.declared.reading.ReadTurn
