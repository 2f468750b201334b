pub mod Joined
pub mod NamesInOrder
