-- What `play_lines` has, passed on to the crates above.
pub use Rattle.play_lines.specs.Drawing
pub use Rattle.play_lines.specs.Lines
pub use Rattle.play_lines.specs.Shelves
pub use Rattle.play_lines.specs.Showing
pub use Rattle.play_lines.specs.declared.playing.Playing
