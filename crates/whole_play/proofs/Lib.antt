mod OpenLemmas
mod ThroughLemmas
mod ClosedLemmas
mod FaultLemmas
mod ToldLemmas
mod HeldLemmas
mod HoldLemmas
mod LentLemmas
mod FrontLemmas
pub mod NodeOpening
pub mod WorldAcks
pub mod WorldOrders
