pub mod Logs
pub mod Memory
pub mod Scripts
pub mod KeptTexts
pub mod Wires
pub mod Plays
