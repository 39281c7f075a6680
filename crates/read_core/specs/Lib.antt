pub mod Servings
pub mod Readings
pub mod Laws
pub mod ChunkSums
pub mod ReplicaModel
