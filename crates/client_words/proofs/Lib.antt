pub mod OneLines
pub mod AskedOptions
pub mod Targets
