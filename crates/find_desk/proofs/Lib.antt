mod Keeping
mod Decided
