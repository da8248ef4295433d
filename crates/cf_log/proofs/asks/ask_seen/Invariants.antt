use Rattle.cf_log.proofs.asks.ask_seen.Given as goal

abbrev pub ghosts-ask_seen_by : goal.ghosts-ask_seen_by
ghosts-ask_seen_by g a = record { name = a.blank.name; parts = a.blank.parts }
