pub mod Exits
pub mod Reading
pub mod Answers
pub mod Runs
pub mod Storming
pub mod Tasks
pub mod Calling
pub mod NodeOpening
