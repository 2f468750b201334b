pub mod Exercise
pub mod Generated
