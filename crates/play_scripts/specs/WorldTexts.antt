-- What `world_texts` has, passed on to the crates above.
pub use Rattle.play_laws.specs.WorldTexts.Texts
