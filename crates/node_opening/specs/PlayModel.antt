-- What `play_model` has, passed on to the crates above.
pub use Rattle.play_nodes.specs.PlayModel.Dues
