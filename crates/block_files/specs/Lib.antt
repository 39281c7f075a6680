pub mod Placements
pub mod BlockCalls
pub mod Laws
