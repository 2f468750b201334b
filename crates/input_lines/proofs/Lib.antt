pub mod FirstBytes
pub mod Fronts
pub mod InputLines
pub mod LineCuts
