pub mod DurationBytes
pub mod Floats
pub mod FoundMembers
pub mod ReadUpTo
pub mod SomesUpTo
pub mod Written
pub mod WrittenNames
pub mod WrittenRows
