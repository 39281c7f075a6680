pub mod Standings
pub mod WorldNets
