mod LifeLemmas
pub mod StartLemmas
mod ReturnLemmas
pub mod NodeOpening
