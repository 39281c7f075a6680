pub mod SendingLaws
pub mod ReadLemmas
pub mod PacketLemmas
pub mod DrivingLaws
pub mod ReadingLaws
pub mod VerifiedLaws
