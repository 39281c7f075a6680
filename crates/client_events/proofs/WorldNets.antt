-- What `world_nets` has, passed on to the crates above.
pub use Rattle.member_events.proofs.WorldNets.DrawnLemmas
pub use Rattle.member_events.proofs.WorldNets.StepLemmas
