pub mod Places
pub mod Tokens
pub mod Answer
pub mod Replica
