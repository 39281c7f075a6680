pub mod AckCodec
pub mod ChunkSums
pub mod PacketCodec
pub mod PacketStream
pub mod ReplicaModel
pub mod WriterCore
