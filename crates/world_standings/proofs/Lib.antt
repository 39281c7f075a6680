pub mod StandingLaws
pub mod WorldNets
