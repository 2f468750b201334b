pub mod Untold
pub mod Served
pub mod Rounds
pub mod Sending
