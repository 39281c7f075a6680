pub mod StepLemmas
pub mod InfoLemmas
pub mod SoundLemmas
pub mod TransitionLemmas
