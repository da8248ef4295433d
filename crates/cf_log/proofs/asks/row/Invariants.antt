use Rattle.cf_log.proofs.asks.row.Given as goal

abbrev pub ghosts-row_by : goal.ghosts-row_by
ghosts-row_by g a = record { name = a.blank.name; parts = a.blank.parts }
