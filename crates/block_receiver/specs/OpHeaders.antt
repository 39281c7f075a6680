-- What `op_headers` has, passed on to the crates above.
pub use Rattle.member_core.specs.OpHeaders.Values
