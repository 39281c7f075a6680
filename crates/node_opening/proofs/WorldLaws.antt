-- What `world_laws` has, passed on to the crates above.
pub use Rattle.play_nodes.proofs.WorldLaws.FoundLaws
