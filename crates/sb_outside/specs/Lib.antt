pub mod Outside
pub mod Sessions
pub mod Keeping
pub mod Connections
pub mod Reading
pub mod Writing
