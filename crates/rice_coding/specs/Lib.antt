pub mod Bits
pub mod Codes
pub mod Decoding
pub mod Encoding
pub mod Reading
pub mod Rice
