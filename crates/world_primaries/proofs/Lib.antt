mod DrawnLemmas
mod LinkLemmas
mod DialLemmas
pub mod WorldNets
pub mod WorldOrders
