-- What `play_model` has, passed on to the crates above.
pub use Rattle.node_opening.specs.PlayModel.Dues
