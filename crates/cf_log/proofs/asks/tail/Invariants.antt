use Rattle.cf_log.proofs.asks.tail.Given as goal

abbrev pub ghosts-tail_by : goal.ghosts-tail_by
ghosts-tail_by g a = record { name = a.blank.name; parts = a.blank.parts }
