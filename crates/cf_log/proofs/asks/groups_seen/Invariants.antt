use Rattle.cf_log.proofs.asks.groups_seen.Given as goal

abbrev pub ghosts-groups_seen_by : goal.ghosts-groups_seen_by
ghosts-groups_seen_by g a = record { name = a.blank.name; parts = a.blank.parts }
