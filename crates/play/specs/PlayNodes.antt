-- What `play_nodes` has, passed on to the crates above.
pub use Rattle.node_stops.specs.PlayNodes.Showing
