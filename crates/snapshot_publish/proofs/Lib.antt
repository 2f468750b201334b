pub mod Prefixes
pub mod Steps
pub mod Newest
pub mod Boxes
