pub mod MemberLemmas
pub mod AckCodec
pub mod PacketCodec
pub mod ReplicaModel
