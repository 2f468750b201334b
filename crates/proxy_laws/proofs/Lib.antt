mod Grounds
mod Tracing
mod Rightness
