pub mod Over
pub mod Open
pub mod Answered
