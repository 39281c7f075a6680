pub mod ByteLemmas
pub mod DurableLaws
pub mod PlanLaws
pub mod ProgressLaws
pub mod DiskLaws
