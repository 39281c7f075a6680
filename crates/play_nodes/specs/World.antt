-- What `world` has, passed on to the crates above.
pub use Rattle.play_model.specs.World.Parts
pub use Rattle.play_model.specs.World.Restarts
pub use Rattle.play_model.specs.World.Worlds
