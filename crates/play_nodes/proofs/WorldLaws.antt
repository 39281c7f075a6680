-- What `world_laws` has, passed on to the crates above.
pub use Rattle.play_model.proofs.WorldLaws.FactTables
pub use Rattle.play_model.proofs.WorldLaws.FoundLaws
pub use Rattle.play_model.proofs.WorldLaws.GrowthLaws
