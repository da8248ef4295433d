use Rattle.cf_log.proofs.asks.finding.Given as goal

abbrev pub ghosts-finding_by : goal.ghosts-finding_by
ghosts-finding_by g a = record { name = a.blank.name; parts = a.blank.parts }
