pub mod Standard
pub mod Tcp
pub mod Tails
