pub mod Publications
pub mod Rule
pub mod Publishing
pub mod Kept
