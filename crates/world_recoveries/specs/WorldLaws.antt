-- What `world_laws` has, passed on to the crates above.
pub use Rattle.world_laws.specs.Carrying
pub use Rattle.world_laws.specs.Finding
pub use Rattle.world_laws.specs.Growing
pub use Rattle.world_laws.specs.Joining
pub use Rattle.world_laws.specs.Stamping
