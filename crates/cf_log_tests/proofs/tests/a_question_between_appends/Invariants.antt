use Rattle.cf_log_tests.proofs.tests.a_question_between_appends.Given as goal

abbrev pub ghosts-two_writers : goal.ghosts-two_writers
ghosts-two_writers g a = record { name = a.blank.name; parts = a.blank.parts }
