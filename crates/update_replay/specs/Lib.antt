pub mod Example
pub mod Law
pub mod Printed
pub mod Readings
pub mod Replay
