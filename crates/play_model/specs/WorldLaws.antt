-- What `world_laws` has, passed on to the crates above.
pub use Rattle.world_laws.specs.Facts
pub use Rattle.world_laws.specs.Filling
pub use Rattle.world_laws.specs.Growing
pub use Rattle.world_laws.specs.Placing
pub use Rattle.world_laws.specs.Stamping
pub use Rattle.world_laws.specs.Testing
