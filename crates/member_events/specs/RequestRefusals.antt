-- What `request_refusals` has, passed on to the crates above.
pub use Rattle.pipe_member.specs.RequestRefusals.RequestRefusal
