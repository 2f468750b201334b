pub mod Vectors
pub mod Published
