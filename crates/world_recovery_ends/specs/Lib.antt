pub mod Beginning
pub mod Going
pub mod Stopping
pub mod WorldSettling
