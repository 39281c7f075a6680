-- What `world_orders` has, passed on to the crates above.
pub use Rattle.world_orders.specs.Open
pub use Rattle.world_orders.specs.Orders
pub use Rattle.world_orders.specs.Takes
