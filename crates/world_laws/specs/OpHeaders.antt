-- What `op_headers` has, passed on to the crates above.
pub use Rattle.world.specs.OpHeaders.ReadOp
