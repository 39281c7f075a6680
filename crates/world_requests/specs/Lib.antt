pub mod Requests
pub mod World
