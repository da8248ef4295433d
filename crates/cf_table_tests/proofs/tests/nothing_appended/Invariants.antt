use Rattle.cf_table_tests.proofs.tests.nothing_appended.Given as goal

abbrev pub ghosts-homes : goal.ghosts-homes
ghosts-homes g a = record { name = a.blank.name; parts = a.blank.parts }
