pub mod Answers
pub mod Naming
