pub mod Queues
pub mod Following
pub mod Happening
pub mod Assembly
