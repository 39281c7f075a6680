pub mod ExtentLemmas
pub mod StreamLemmas
pub mod CarryLemmas
