-- What `world_stops` has, passed on to the crates above.
pub use Rattle.node_stops.proofs.WorldStops.StopLemmas
