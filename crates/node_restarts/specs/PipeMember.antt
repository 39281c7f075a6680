-- What `pipe_member` has, passed on to the crates above.
pub use Rattle.node_opening.specs.PipeMember.Member
