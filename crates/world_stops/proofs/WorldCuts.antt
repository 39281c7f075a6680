-- What `world_cuts` has, passed on to the crates above.
pub use Rattle.world_cuts.proofs.CutLemmas
