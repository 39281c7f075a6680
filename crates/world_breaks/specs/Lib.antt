pub mod Breaks
pub mod WorldLaws
