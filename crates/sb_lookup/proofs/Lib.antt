pub mod Asked
pub mod Members
pub mod Names
pub mod Served
