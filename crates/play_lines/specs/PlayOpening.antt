-- What `play_opening` has, passed on to the crates above.
pub use Rattle.play_opening.specs.Opening
