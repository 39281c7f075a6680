pub mod Headers
pub mod Frames
pub mod Packets
pub mod Refusals
pub mod Parts
