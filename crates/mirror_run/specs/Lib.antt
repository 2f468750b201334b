pub mod State
pub mod Events
pub mod Allowed
pub mod SoFar
pub mod Steps
pub mod Run
