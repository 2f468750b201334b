pub mod BitFacts
pub mod CodeFacts
pub mod PackFacts
pub mod ReadingFacts
pub mod NextFacts
pub mod DecodeFacts
pub mod EncodeFacts
