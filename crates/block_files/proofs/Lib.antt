pub mod NameLemmas
pub mod PlacementLaws
