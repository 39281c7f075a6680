-- What `node_refs` has, passed on to the crates above.
pub use Rattle.node_refs.specs.NodeRefs
