-- What `read_core` has, passed on to the crates above.
pub use Rattle.world_laws.specs.ReadCore.Servings
