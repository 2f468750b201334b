pub mod Events
pub mod Desk
pub mod Verdicts
