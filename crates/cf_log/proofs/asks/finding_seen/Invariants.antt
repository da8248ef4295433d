use Rattle.cf_log.proofs.asks.finding_seen.Given as goal

abbrev pub ghosts-finding_seen_by : goal.ghosts-finding_seen_by
ghosts-finding_seen_by g a = record { name = a.blank.name; parts = a.blank.parts }
