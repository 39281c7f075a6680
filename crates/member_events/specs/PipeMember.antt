-- What `pipe_member` has, passed on to the crates above.
pub use Rattle.pipe_member.specs.Enabled
pub use Rattle.pipe_member.specs.Exchanges
pub use Rattle.pipe_member.specs.Looks
pub use Rattle.pipe_member.specs.Steps
pub use Rattle.pipe_member.specs.declared.member.Member
pub use Rattle.pipe_member.specs.declared.stages.Looked
pub use Rattle.pipe_member.specs.declared.stages.Stage
