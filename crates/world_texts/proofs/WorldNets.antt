-- What `world_nets` has, passed on to the crates above.
pub use Rattle.world_nets.proofs.ChangeLemmas
pub use Rattle.world_nets.proofs.DialLemmas
pub use Rattle.world_nets.proofs.DrawnLemmas
pub use Rattle.world_nets.proofs.EndLemmas
pub use Rattle.world_nets.proofs.FlushLemmas
pub use Rattle.world_nets.proofs.FlushingLemmas
pub use Rattle.world_nets.proofs.RowLemmas
pub use Rattle.world_nets.proofs.StepLemmas
