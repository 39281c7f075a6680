-- What `node_refs` has, passed on to the crates above.
pub use Rattle.world_laws.specs.NodeRefs.NodeRefs
