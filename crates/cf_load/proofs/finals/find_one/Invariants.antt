use Rattle.cf_load.proofs.finals.find_one.Given as goal

abbrev pub ghosts-find_walked : goal.ghosts-find_walked
ghosts-find_walked g a = record { name = a.blank.name; parts = a.blank.parts }
