pub mod Fronts
pub mod Steady
pub mod Losses
pub mod Hsyncs
pub mod Scans
pub mod Books
pub mod Survival
