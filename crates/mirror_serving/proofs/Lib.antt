pub mod KeptFacts
pub mod ResponseFacts
pub mod WishFacts
