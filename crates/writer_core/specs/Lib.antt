pub mod Commands
pub mod Phases
pub mod Requests
pub mod Transitions
pub mod Sound
pub mod Laws
