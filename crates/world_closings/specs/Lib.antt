pub mod Answering
pub mod Safety
pub mod WorldFinals
pub mod WorldWriters
