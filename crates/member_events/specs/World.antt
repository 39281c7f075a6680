-- What `world` has, passed on to the crates above.
pub use Rattle.world_texts.specs.World.Caller
pub use Rattle.world_texts.specs.World.Clients
pub use Rattle.world_texts.specs.World.Connections
pub use Rattle.world_texts.specs.World.Delivery
pub use Rattle.world_texts.specs.World.Event
pub use Rattle.world_texts.specs.World.Events
pub use Rattle.world_texts.specs.World.Nodes
pub use Rattle.world_texts.specs.World.OwnStep
pub use Rattle.world_texts.specs.World.Parts
pub use Rattle.world_texts.specs.World.Primaries
pub use Rattle.world_texts.specs.World.TakenCommand
pub use Rattle.world_texts.specs.World.Worlds
