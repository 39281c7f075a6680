-- What `world_nets` has, passed on to the crates above.
pub use Rattle.play_servers.proofs.WorldNets.StepLemmas
