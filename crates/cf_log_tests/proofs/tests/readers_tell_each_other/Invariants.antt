use Rattle.cf_log_tests.proofs.tests.readers_tell_each_other.Given as goal

abbrev pub ghosts-two_readers : goal.ghosts-two_readers
ghosts-two_readers g a = record { name = a.blank.name; parts = a.blank.parts }
