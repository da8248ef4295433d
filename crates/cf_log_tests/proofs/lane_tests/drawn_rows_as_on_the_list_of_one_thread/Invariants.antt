use Rattle.cf_log_tests.proofs.lane_tests.drawn_rows_as_on_the_list_of_one_thread.Given as goal

abbrev pub ghosts-drawn : goal.ghosts-drawn
ghosts-drawn g a = record { name = a.blank.name; parts = a.blank.parts }
