-- What `world_laws` has, passed on to the crates above.
pub use Rattle.world_laws.proofs.FactTables
