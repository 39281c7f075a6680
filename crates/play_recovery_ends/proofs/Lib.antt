pub mod Worlds
pub mod Plays
pub mod Settled
