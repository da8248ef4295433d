use Rattle.cf_table_tests.proofs.append_tests.two_unfinished.Given as goal

abbrev pub ghosts-three_at_once : goal.ghosts-three_at_once
ghosts-three_at_once g a = record { name = a.blank.name; parts = a.blank.parts }
