pub mod HitFacts
pub mod FewPrefixes
pub mod Steps
pub mod LookFacts
pub mod FindFacts
pub mod ResolveFacts
pub mod TypeFacts
pub mod RunOfFindings
pub mod SizeFacts
mod SeveralFacts
