pub mod Wire
pub mod Spelling
pub mod Reading
pub mod Given
