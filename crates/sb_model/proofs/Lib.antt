pub mod Characters
pub mod DurationTexts
pub mod Numerals
pub mod NameCodes
pub mod NameParts
pub mod NameWords
