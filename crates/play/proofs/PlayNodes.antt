-- What `play_nodes` has, passed on to the crates above.
pub use Rattle.node_stops.proofs.PlayNodes.PlaceLaws
