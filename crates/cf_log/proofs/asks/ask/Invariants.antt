use Rattle.cf_log.proofs.asks.ask.Given as goal

abbrev pub ghosts-ask_by : goal.ghosts-ask_by
ghosts-ask_by g a = record { name = a.blank.name; parts = a.blank.parts }
