use Rattle.cf_load.proofs.segment_asks.found_now.Given as goal

abbrev pub ghosts-findings_behind : goal.ghosts-findings_behind
ghosts-findings_behind a = record { name = a.blank.name; parts = a.blank.parts }
