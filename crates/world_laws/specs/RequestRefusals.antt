-- What `request_refusals` has, passed on to the crates above.
pub use Rattle.world.specs.RequestRefusals.Pools
pub use Rattle.world.specs.RequestRefusals.RequestRefusal
pub use Rattle.world.specs.RequestRefusals.Texts
