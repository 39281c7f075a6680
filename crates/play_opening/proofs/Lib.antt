mod ClientLemmas
mod OpenLemmas
pub mod NodeStarts
pub mod PlayProofs
pub mod PlayClients
pub mod PlayDues
pub mod PlayReaders
pub mod WorldStops
