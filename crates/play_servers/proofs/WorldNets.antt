-- What `world_nets` has, passed on to the crates above.
pub use Rattle.world_standings.proofs.WorldNets.StepLemmas
