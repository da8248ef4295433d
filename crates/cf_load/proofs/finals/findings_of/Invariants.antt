use Rattle.cf_load.proofs.finals.findings_of.Given as goal

abbrev pub ghosts-questions_of : goal.ghosts-questions_of
ghosts-questions_of g a = record { name = a.blank.name; parts = a.blank.parts }
