-- What `world_texts` has, passed on to the crates above.
pub use Rattle.reader_events.specs.WorldTexts.Texts
