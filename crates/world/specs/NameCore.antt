-- What `name_core` has, passed on to the crates above.
pub use Rattle.name_core.specs.declared.calls.OfficeCall
