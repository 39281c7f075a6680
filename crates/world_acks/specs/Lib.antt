pub mod Passing
pub mod Closing
pub mod Waiting
pub mod Acking
pub mod WorldRecoveries
