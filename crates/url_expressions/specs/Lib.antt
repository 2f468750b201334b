pub mod Expressions
pub mod Spans
