-- What `pipe_member` has, passed on to the crates above.
pub use Rattle.play_nodes.specs.PipeMember.Member
