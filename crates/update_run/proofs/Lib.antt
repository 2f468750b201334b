pub mod Endings
pub mod Entries
pub mod Fronts
pub mod NotAnswered
pub mod OneByOne
pub mod Saves
pub mod Stopping
pub mod Ways
