pub mod Fields
pub mod Gathered
pub mod Printed
pub mod Reading
pub mod Selected
pub mod Store
