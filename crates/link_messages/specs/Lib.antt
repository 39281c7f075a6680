pub mod Incomings
pub mod Empties
