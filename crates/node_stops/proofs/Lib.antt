mod ConnectionLemmas
mod CutLemmas
mod EndLemmas
mod StandLemmas
mod StopLemmas
pub mod MemberEvents
pub mod PlayNodes
pub mod WorldCuts
pub mod WorldStops
