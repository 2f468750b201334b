pub mod Appended
pub mod Pieces
