pub mod SumLemmas
pub mod PlacementLemmas
pub mod RowLemmas
pub mod BadLemmas
pub mod BlockLemmas
