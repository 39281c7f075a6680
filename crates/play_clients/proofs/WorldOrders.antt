-- What `world_orders` has, passed on to the crates above.
pub use Rattle.world_orders.proofs.Kept
pub use Rattle.world_orders.proofs.OpenFrame
pub use Rattle.world_orders.proofs.OpenLowers
