-- What `pipe_member` has, passed on to the crates above.
pub use Rattle.pipe_member.proofs.SizeLemmas
