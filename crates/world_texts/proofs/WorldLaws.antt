-- What `world_laws` has, passed on to the crates above.
pub use Rattle.world_laws.proofs.AllCarried
pub use Rattle.world_laws.proofs.FactTables
pub use Rattle.world_laws.proofs.FilledLaws
pub use Rattle.world_laws.proofs.PlacedLaws
pub use Rattle.world_laws.proofs.RunLaws
pub use Rattle.world_laws.proofs.SessionAsides
