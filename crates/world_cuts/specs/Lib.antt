pub mod Cutting
pub mod WorldNets
