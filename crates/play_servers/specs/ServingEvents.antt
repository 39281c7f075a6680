-- What `serving_events` has, passed on to the crates above.
pub use Rattle.serving_events.specs.declared.faults.ServeFault
