pub mod Over
pub mod Held
pub mod Steps
