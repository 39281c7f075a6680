-- What `request_refusals` has, passed on to the crates above.
pub use Rattle.pipe_setup.specs.RequestRefusals.RequestRefusal
