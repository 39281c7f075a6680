-- What `play_laws` has, passed on to the crates above.
pub use Rattle.play_laws.proofs.Aiming
pub use Rattle.play_laws.proofs.Commanding
pub use Rattle.play_laws.proofs.Early
pub use Rattle.play_laws.proofs.Intakes
pub use Rattle.play_laws.proofs.Resting
pub use Rattle.play_laws.proofs.Running
pub use Rattle.play_laws.proofs.Taking
pub use Rattle.play_laws.proofs.Untold
