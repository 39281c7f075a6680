-- What `pipe_setup` has, passed on to the crates above.
pub use Rattle.pipe_setup.proofs.ReachingLemmas
