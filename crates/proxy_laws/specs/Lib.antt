pub mod Traced
pub mod Told
