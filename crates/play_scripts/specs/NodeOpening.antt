-- What `node_opening` has, passed on to the crates above.
pub use Rattle.node_opening.specs.Closing
pub use Rattle.node_opening.specs.Emptiness
pub use Rattle.node_opening.specs.Laws
pub use Rattle.node_opening.specs.Listening
pub use Rattle.node_opening.specs.Opening
pub use Rattle.node_opening.specs.Shelves
pub use Rattle.node_opening.specs.Standing
pub use Rattle.node_opening.specs.declared.faults.OpenFault
