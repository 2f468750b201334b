pub mod Mirrors
pub mod Strangers
pub mod Chains
pub mod Example
