-- What `world_nets` has, passed on to the crates above.
pub use Rattle.member_events.specs.WorldNets.Drawn
pub use Rattle.member_events.specs.WorldNets.Nets
