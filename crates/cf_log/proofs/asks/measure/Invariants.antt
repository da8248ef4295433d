use Rattle.cf_log.proofs.asks.measure.Given as goal

abbrev pub ghosts-measure_by : goal.ghosts-measure_by
ghosts-measure_by g a = record { name = a.blank.name; parts = a.blank.parts }
