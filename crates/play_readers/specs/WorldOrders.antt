-- What `world_orders` has, passed on to the crates above.
pub use Rattle.reader_events.specs.WorldOrders.Orders
