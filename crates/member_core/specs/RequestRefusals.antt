-- What `request_refusals` has, passed on to the crates above.
pub use Rattle.request_refusals.specs.Pools
pub use Rattle.request_refusals.specs.Rules
pub use Rattle.request_refusals.specs.Texts
pub use Rattle.request_refusals.specs.declared.refusals.RequestRefusal
