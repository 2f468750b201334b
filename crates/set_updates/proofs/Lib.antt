pub mod Membership
pub mod NumberFacts
pub mod SameSets
pub mod SetFacts
pub mod UpdateFacts
