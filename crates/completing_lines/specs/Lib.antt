pub mod Following
pub mod Play
pub mod PlayCompleteness
pub mod PlayDues
pub mod PlayLines
pub mod PlayOpening
pub mod PlayRecoveries
