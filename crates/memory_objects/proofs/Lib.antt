pub mod Logs
pub mod Pieces
pub mod Torn
pub mod WirePieces
pub mod PlayedSteps
