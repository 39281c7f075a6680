-- What `play_dues` has, passed on to the crates above.
pub use Rattle.play_dues.proofs.UpperLaws
