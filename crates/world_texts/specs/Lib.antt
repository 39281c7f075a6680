pub mod Texts
pub mod PacketStream
pub mod World
pub mod WorldLaws
pub mod WorldNets
