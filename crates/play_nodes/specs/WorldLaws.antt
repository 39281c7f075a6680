-- What `world_laws` has, passed on to the crates above.
pub use Rattle.play_model.specs.WorldLaws.Filling
pub use Rattle.play_model.specs.WorldLaws.Placing
