pub mod Drawn
pub mod Links
pub mod Dials
pub mod WorldNets
pub mod WorldOrders
