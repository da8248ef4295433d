use Rattle.cf_load.proofs.writers.run_first.Given as goal

abbrev pub ghosts-write_counted : goal.ghosts-write_counted
ghosts-write_counted g a = record { name = a.blank.name; parts = a.blank.parts }
