pub mod Extents
pub mod Streams
pub mod Carried
