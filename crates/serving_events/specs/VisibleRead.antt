-- What `visible_read` has, passed on to the crates above.
pub use Rattle.visible_read.specs.Servings
pub use Rattle.visible_read.specs.Sound
pub use Rattle.visible_read.specs.declared.answering.Course
