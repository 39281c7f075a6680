-- What `pipe_setup` has, passed on to the crates above.
pub use Rattle.pipe_member.specs.PipeSetup.Requests
