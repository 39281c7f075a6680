-- What `world` has, passed on to the crates above.
pub use Rattle.world_laws.specs.World.Connections
pub use Rattle.world_laws.specs.World.Delivery
pub use Rattle.world_laws.specs.World.Event
pub use Rattle.world_laws.specs.World.Events
pub use Rattle.world_laws.specs.World.Nodes
pub use Rattle.world_laws.specs.World.Parts
pub use Rattle.world_laws.specs.World.Worlds
