pub mod Kinds
pub mod Summaries
