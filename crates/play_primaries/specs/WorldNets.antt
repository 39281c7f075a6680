-- What `world_nets` has, passed on to the crates above.
pub use Rattle.play_readers.specs.WorldNets.Nets
pub use Rattle.play_readers.specs.WorldNets.Rows
pub use Rattle.play_readers.specs.WorldNets.Starts
