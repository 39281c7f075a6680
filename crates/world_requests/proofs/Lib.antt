pub mod Frame
pub mod Nodes
pub mod Clients
pub mod Primaries
pub mod AllAsked
pub mod WorldLaws
