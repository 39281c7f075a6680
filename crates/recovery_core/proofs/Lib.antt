pub mod PrimaryLemmas
pub mod ChosenLemmas
pub mod CommitLemmas
