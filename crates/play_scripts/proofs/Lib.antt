pub mod MemberWords
pub mod Formed
pub mod NumberingLemmas
pub mod Scripted
pub mod Placed
pub mod Distinct
pub mod UnplayedLemmas
pub mod AskLemmas
pub mod RecoveryLemmas
mod StormFits
pub mod MemberEvents
pub mod NodeOpening
pub mod PlayLaws
pub mod PlayNodes
pub mod WorldAcks
