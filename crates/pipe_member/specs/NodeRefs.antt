-- What `node_refs` has, passed on to the crates above.
pub use Rattle.pipe_setup.specs.NodeRefs.NodeRefs
