pub mod Ahead
pub mod Crc
pub mod Chunks
pub mod Four
pub mod Lanes
