pub mod Sendings
pub mod Turns
pub mod Acks
pub mod ReplicaCore
