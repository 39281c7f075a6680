-- What `world_orders` has, passed on to the crates above.
pub use Rattle.world_orders.proofs.AllOrdered
