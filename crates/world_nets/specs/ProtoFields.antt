-- What `proto_fields` has, passed on to the crates above.
pub use Rattle.proto_fields.specs.Fields
pub use Rattle.proto_fields.specs.Varint
pub use Rattle.proto_fields.specs.Writing
pub use Rattle.proto_fields.specs.declared.reading.Wire
