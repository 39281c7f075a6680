pub mod QueueLemmas
pub mod DueLemmas
pub mod SoundLemmas
pub mod AckLemmas
pub mod ReachedLemmas
pub mod StampLemmas
