-- What `proto_fields` has, passed on to the crates above.
pub use Rattle.proto_fields.specs.Frames
