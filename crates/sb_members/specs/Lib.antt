pub mod Laws
pub mod Lists
pub mod Parts
pub mod Ranges
pub mod Rows
pub mod Somes
pub mod Writing
