mod AskingFacts
mod PassingFacts
