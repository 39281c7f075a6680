pub mod Histories
pub mod Replaying
pub mod Syncing
