pub mod Rounds
pub mod Ended
