pub mod Members
pub mod Primaries
pub mod Laws
