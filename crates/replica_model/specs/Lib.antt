pub mod Sums
pub mod Rows
pub mod Histories
pub mod Plans
pub mod Found
pub mod Laws
