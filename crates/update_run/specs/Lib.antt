pub mod Opening
pub mod Printed
pub mod Rounding
pub mod Run
pub mod Saved
pub mod Steps
pub mod Stepping
pub mod Stops
