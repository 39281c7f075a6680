pub mod RequestLemmas
pub mod ReachingLemmas
pub mod ReplicaFiles
