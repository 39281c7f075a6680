pub mod Numbers
pub mod Varint
pub mod Fields
pub mod Values
pub mod Writing
pub mod Inner
pub mod Frames
pub mod Framed
