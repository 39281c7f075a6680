pub mod EndLemmas
pub mod AskLemmas
pub mod RecoveryLemmas
pub mod ListedLemmas
pub mod WorldLaws
