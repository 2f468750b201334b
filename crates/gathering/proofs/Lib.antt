pub mod WireReads
pub mod Pieces
pub mod RisingRoom
pub mod LeastTaken
pub mod FirstBest
pub mod Leaves
