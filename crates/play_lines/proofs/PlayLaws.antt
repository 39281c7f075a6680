-- What `play_laws` has, passed on to the crates above.
pub use Rattle.play_scripts.proofs.PlayLaws.Commanding
pub use Rattle.play_scripts.proofs.PlayLaws.Intakes
pub use Rattle.play_scripts.proofs.PlayLaws.Running
pub use Rattle.play_scripts.proofs.PlayLaws.Taking
