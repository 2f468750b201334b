pub mod Densities
pub mod Encodings
pub mod JsonTexts
pub mod NumeralTexts
pub mod WrittenTexts
