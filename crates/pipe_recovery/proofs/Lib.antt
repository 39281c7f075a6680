pub mod Leads
pub mod StepLaws
pub mod FitLaws
pub mod DialLaws
pub mod DrivingLaws
pub mod OwnLaws
