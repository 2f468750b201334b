pub mod Versions
pub mod Installs
pub mod Answered
pub mod Complete
pub mod Limits
pub mod Example
