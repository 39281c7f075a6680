-- What `play_primaries` has, passed on to the crates above.
pub use Rattle.play_primaries.proofs.DueLaws
