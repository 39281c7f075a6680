-- What `world` has, passed on to the crates above.
pub use Rattle.world.specs.Clients
pub use Rattle.world.specs.Connections
pub use Rattle.world.specs.Enabled
pub use Rattle.world.specs.Events
pub use Rattle.world.specs.Nodes
pub use Rattle.world.specs.Parts
pub use Rattle.world.specs.Primaries
pub use Rattle.world.specs.Worlds
pub use Rattle.world.specs.declared.events.Caller
pub use Rattle.world.specs.declared.events.Delivery
pub use Rattle.world.specs.declared.events.Event
pub use Rattle.world.specs.declared.events.OwnStep
pub use Rattle.world.specs.declared.events.TakenCommand
