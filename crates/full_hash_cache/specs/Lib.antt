pub mod Cache
pub mod Keys
pub mod Law
