pub mod Counts
pub mod Density
pub mod Faults
pub mod Fields
pub mod Printed
pub mod Values
