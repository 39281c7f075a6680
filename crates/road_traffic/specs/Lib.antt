pub mod Traffic
pub mod Showing
pub mod Laws
