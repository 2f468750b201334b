use Rattle.url_checker.proofs.hits.has.Given as goal

abbrev pub ghosts-looked_up : goal.ghosts-looked_up
ghosts-looked_up a = record { name = a.blank.name; parts = a.blank.parts }
