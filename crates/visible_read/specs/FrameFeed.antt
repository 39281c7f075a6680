-- What `frame_feed` has, passed on to the crates above.
pub use Rattle.frame_feed.specs.KindLaws
pub use Rattle.frame_feed.specs.Kinds
pub use Rattle.frame_feed.specs.declared.notes.Message
