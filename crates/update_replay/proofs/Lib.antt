pub mod ExampleDigests
pub mod ExampleRun
pub mod Headline
pub mod Outcomes
pub mod Readings
pub mod Replays
