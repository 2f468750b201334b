pub mod HexFacts
pub mod OrderFacts
