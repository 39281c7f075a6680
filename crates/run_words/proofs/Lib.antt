pub mod CommandLaws
pub mod CallLaws
