mod MadeRounds
mod Ways
mod ItsPlaces
