-- What `play` has, passed on to the crates above.
pub use Rattle.play.proofs.Dispatch
pub use Rattle.play.proofs.Lawful
