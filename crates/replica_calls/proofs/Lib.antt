mod PerformLemmas
pub mod GrowthLemmas
pub mod ListLemmas
pub mod RemovalLemmas
