-- What `world_laws` has, passed on to the crates above.
pub use Rattle.world_laws.proofs.Agreements
pub use Rattle.world_laws.proofs.AllCarried
pub use Rattle.world_laws.proofs.AllRecorded
pub use Rattle.world_laws.proofs.ByteFrame
pub use Rattle.world_laws.proofs.FactTables
pub use Rattle.world_laws.proofs.FoundLaws
pub use Rattle.world_laws.proofs.GrowthLaws
pub use Rattle.world_laws.proofs.PlacedLaws
pub use Rattle.world_laws.proofs.RunLaws
pub use Rattle.world_laws.proofs.SessionAsides
pub use Rattle.world_laws.proofs.StampGivens
pub use Rattle.world_laws.proofs.TestLaws
