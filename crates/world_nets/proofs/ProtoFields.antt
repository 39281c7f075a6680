-- What `proto_fields` has, passed on to the crates above.
pub use Rattle.proto_fields.proofs.StatusLemmas
pub use Rattle.proto_fields.proofs.VarintLemmas
pub use Rattle.proto_fields.proofs.WrittenLemmas
