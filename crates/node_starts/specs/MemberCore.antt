-- What `member_core` has, passed on to the crates above.
pub use Rattle.member_core.specs.declared.requests.TheConstants
