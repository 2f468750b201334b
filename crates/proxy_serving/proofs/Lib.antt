pub mod ResponseFacts
