-- What `world_nets` has, passed on to the crates above.
pub use Rattle.world_texts.proofs.WorldNets.DialLemmas
pub use Rattle.world_texts.proofs.WorldNets.EndLemmas
pub use Rattle.world_texts.proofs.WorldNets.FlushingLemmas
pub use Rattle.world_texts.proofs.WorldNets.StepLemmas
