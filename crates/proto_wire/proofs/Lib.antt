pub mod FieldExact
pub mod ItemFacts
pub mod SpellingFacts
pub mod ValueFacts
pub mod VarintExact
pub mod VarintFacts
pub mod WrittenFacts
