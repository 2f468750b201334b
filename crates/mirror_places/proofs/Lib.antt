pub mod AnswerFacts
pub mod Finding
pub mod FollowFacts
pub mod PlaceFacts
pub mod SizeFacts
pub mod TokenFacts
