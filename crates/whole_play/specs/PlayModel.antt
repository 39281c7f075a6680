-- What `play_model` has, passed on to the crates above.
pub use Rattle.play_model.specs.Lines
pub use Rattle.play_model.specs.States
