pub mod Beginnings
pub mod Sessions
pub mod Traces
pub mod Waits
