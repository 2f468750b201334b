pub mod Hits
pub mod Checking
pub mod Resolving
pub mod Resolved
pub mod Findings
pub mod Looking
pub mod Several
