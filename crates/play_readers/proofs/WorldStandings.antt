-- What `world_standings` has, passed on to the crates above.
pub use Rattle.world_standings.proofs.StandingLaws
