-- What `world_nets` has, passed on to the crates above.
pub use Rattle.world_nets.proofs.DrawnLemmas
pub use Rattle.world_nets.proofs.StepLemmas
