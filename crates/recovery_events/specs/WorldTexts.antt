-- What `world_texts` has, passed on to the crates above.
pub use Rattle.member_events.specs.WorldTexts.Texts
