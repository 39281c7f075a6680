pub mod Faults
pub mod Lives
pub mod Books
pub mod Starting
pub mod MemberCore
pub mod NodeOpening
pub mod WorldBreaks
