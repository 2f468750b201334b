pub mod Apply
pub mod Edits
pub mod Index
pub mod Kept
pub mod Limits
pub mod Packing
pub mod Pieces
pub mod Search
