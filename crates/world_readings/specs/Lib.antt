pub mod Results
pub mod Going
pub mod Lengths
pub mod Origins
