pub mod LawLemmas
pub mod SurvivalLemmas
