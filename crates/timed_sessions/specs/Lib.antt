pub mod Told
pub mod Timed
pub mod Waiting
pub mod Law
