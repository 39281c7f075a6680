pub mod Measure
pub mod Traffic
pub mod Leading
pub mod Draws
pub mod MemberCore
pub mod World
pub mod WorldNets
pub mod WorldTexts
