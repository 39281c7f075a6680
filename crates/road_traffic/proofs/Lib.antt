pub mod TrafficLemmas
pub mod ShowingLemmas
pub mod CallLemmas
