pub mod Commands
pub mod Endings
pub mod Judgings
pub mod Runs
pub mod Served
pub mod Shows
