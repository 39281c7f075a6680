-- What `world_orders` has, passed on to the crates above.
pub use Rattle.play_completeness.proofs.WorldOrders.Kept
pub use Rattle.play_completeness.proofs.WorldOrders.Lists
