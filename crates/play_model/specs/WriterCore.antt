-- What `writer_core` has, passed on to the crates above.
pub use Rattle.world_laws.specs.WriterCore.Action
pub use Rattle.world_laws.specs.WriterCore.Phase
pub use Rattle.world_laws.specs.WriterCore.Transitions
pub use Rattle.world_laws.specs.WriterCore.Waiting
pub use Rattle.world_laws.specs.WriterCore.WriterRecord
