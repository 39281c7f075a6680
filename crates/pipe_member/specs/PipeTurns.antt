-- What `pipe_turns` has, passed on to the crates above.
pub use Rattle.pipe_turns.specs.Acting
pub use Rattle.pipe_turns.specs.Turning
pub use Rattle.pipe_turns.specs.declared.turning.Done
