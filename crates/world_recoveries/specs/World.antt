-- What `world` has, passed on to the crates above.
pub use Rattle.world_laws.specs.World.Caller
pub use Rattle.world_laws.specs.World.Clients
pub use Rattle.world_laws.specs.World.Connections
pub use Rattle.world_laws.specs.World.Delivery
pub use Rattle.world_laws.specs.World.Direction
pub use Rattle.world_laws.specs.World.Event
pub use Rattle.world_laws.specs.World.Events
pub use Rattle.world_laws.specs.World.FoundReplica
pub use Rattle.world_laws.specs.World.Nodes
pub use Rattle.world_laws.specs.World.OwnStep
pub use Rattle.world_laws.specs.World.Parts
pub use Rattle.world_laws.specs.World.Primaries
pub use Rattle.world_laws.specs.World.Restarts
pub use Rattle.world_laws.specs.World.Safe
pub use Rattle.world_laws.specs.World.TakenCommand
pub use Rattle.world_laws.specs.World.Worlds
