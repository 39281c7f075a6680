-- What `world_texts` has, passed on to the crates above.
pub use Rattle.world_settling.specs.WorldTexts.Texts
