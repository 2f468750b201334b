use Rattle.list_versions.proofs.older.fold_on.Given as goal

abbrev pub ghosts-fold_anew : goal.ghosts-fold_anew
ghosts-fold_anew a = record { name = a.blank.name; parts = a.blank.parts }
