pub mod BufferLemmas
pub mod FramingLemmas
pub mod FeedLemmas
pub mod StreamLemmas
