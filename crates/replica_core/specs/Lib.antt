pub mod Refusals
pub mod Info
pub mod Extents
pub mod Transitions
pub mod Views
pub mod Sound
pub mod Laws
