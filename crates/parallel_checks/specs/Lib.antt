pub mod Checks
pub mod Working
pub mod Settled
