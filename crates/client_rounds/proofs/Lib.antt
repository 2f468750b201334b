mod KeptRounds
mod Ways
