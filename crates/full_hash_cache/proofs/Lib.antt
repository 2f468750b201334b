pub mod SamePairs
pub mod Ranges
pub mod Steps
pub mod Told
pub mod Returned
pub mod LastPut
pub mod NotReturned
