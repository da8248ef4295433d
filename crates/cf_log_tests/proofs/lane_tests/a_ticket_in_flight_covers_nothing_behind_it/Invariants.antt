use Rattle.cf_log_tests.proofs.lane_tests.a_ticket_in_flight_covers_nothing_behind_it.Given as goal

abbrev pub ghosts-one_in_flight : goal.ghosts-one_in_flight
ghosts-one_in_flight g a = record { name = a.blank.name; parts = a.blank.parts }
