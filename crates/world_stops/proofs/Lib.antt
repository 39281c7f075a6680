pub mod OriginLemmas
pub mod StopLemmas
pub mod WorldCuts
pub mod WorldLaws
