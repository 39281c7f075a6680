-- What `play_clients` has, passed on to the crates above.
pub use Rattle.play_clients.proofs.CourseLaws
pub use Rattle.play_clients.proofs.OtherLaws
