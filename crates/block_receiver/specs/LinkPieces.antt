-- What `link_pieces` has, passed on to the crates above.
pub use Rattle.link_pieces.specs.Pieces
