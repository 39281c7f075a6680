-- What `play_dues` has, passed on to the crates above.
pub use Rattle.play_dues.specs.Drawing
pub use Rattle.play_dues.specs.Listing
pub use Rattle.play_dues.specs.Live
pub use Rattle.play_dues.specs.Places
pub use Rattle.play_dues.specs.Showing
pub use Rattle.play_dues.specs.Spent
pub use Rattle.play_dues.specs.declared.live.LiveConns
