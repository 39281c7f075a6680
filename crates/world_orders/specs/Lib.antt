pub mod Orders
pub mod Takes
pub mod Open
pub mod World
pub mod WorldLaws
