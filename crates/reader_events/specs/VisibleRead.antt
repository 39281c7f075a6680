-- What `visible_read` has, passed on to the crates above.
pub use Rattle.visible_read.specs.declared.reading.Reading
