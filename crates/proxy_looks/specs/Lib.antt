pub mod Urls
pub mod Settled
pub mod Fates
