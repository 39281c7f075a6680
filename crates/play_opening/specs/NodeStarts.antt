-- What `node_starts` has, passed on to the crates above.
pub use Rattle.play.specs.NodeStarts.Books
pub use Rattle.play.specs.NodeStarts.Lives
