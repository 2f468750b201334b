pub mod Doors
pub mod Counted
pub mod Guests
pub mod Houses
