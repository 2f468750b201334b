pub mod CommandLine
pub mod Views
pub mod Barred
pub mod Rows
pub mod ClapCommand
pub mod Values
pub mod About
