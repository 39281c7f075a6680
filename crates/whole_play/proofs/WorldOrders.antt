-- What `world_orders` has, passed on to the crates above.
pub use Rattle.play_report.proofs.WorldOrders.Kept
