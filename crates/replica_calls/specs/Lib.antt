pub mod LastSums
pub mod CallLists
pub mod Performed
pub mod Laws
