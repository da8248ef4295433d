use Rattle.cf_table.proofs.log.MultiLog.gather.Given as goal

abbrev pub ghosts-settle_counted : goal.ghosts-settle_counted
ghosts-settle_counted a = record { name = a.blank.name; parts = a.blank.parts }
