pub mod Ending
pub mod Input
pub mod Lines
pub mod Ways
pub mod Writing
