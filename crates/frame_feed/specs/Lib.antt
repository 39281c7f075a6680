pub mod Faults
pub mod Framings
pub mod Kinds
pub mod Feeds
pub mod Buffers
pub mod KindLaws
pub mod Streams
