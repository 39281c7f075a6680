-- What `play_model` has, passed on to the crates above.
pub use Rattle.play_model.specs.Asks
pub use Rattle.play_model.specs.Draws
pub use Rattle.play_model.specs.Dues
pub use Rattle.play_model.specs.Faults
pub use Rattle.play_model.specs.Lines
pub use Rattle.play_model.specs.Recoveries
pub use Rattle.play_model.specs.States
pub use Rattle.play_model.specs.declared.asks.ReadAsk
pub use Rattle.play_model.specs.declared.dues.Due
pub use Rattle.play_model.specs.declared.recoveries.Recovery
