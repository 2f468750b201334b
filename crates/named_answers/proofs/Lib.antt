pub mod Asked
pub mod Finds
pub mod Items
pub mod Members
