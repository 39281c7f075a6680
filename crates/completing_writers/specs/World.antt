-- What `world` has, passed on to the crates above.
pub use Rattle.world.specs.Clients
pub use Rattle.world.specs.Events
pub use Rattle.world.specs.Parts
pub use Rattle.world.specs.Worlds
pub use Rattle.world.specs.declared.events.Event
pub use Rattle.world.specs.declared.events.TakenCommand
