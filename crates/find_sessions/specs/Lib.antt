pub mod Asking
pub mod Passing
