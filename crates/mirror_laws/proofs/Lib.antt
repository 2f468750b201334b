pub mod Elements
pub mod RoundFacts
pub mod StrangerFacts
pub mod ChainFacts
pub mod ExampleFacts
pub mod ExampleRounds
