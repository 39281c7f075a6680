pub mod ServingLaws
pub mod ActionLaws
pub mod DrivingLaws
pub mod TellingLaws
pub mod ReplicaFiles
