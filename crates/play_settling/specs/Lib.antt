pub mod Settling
pub mod Failing
