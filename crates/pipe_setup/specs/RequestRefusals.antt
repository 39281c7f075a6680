-- What `request_refusals` has, passed on to the crates above.
pub use Rattle.member_core.specs.RequestRefusals.RequestRefusal
pub use Rattle.member_core.specs.RequestRefusals.Texts
