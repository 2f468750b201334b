pub mod Asked
pub mod ChangeLines
pub mod Loads
pub mod Places
pub mod Told
