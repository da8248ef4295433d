use Rattle.cf_log.proofs.asks.groups.Given as goal

abbrev pub ghosts-groups_by_steps : goal.ghosts-groups_by_steps
ghosts-groups_by_steps g a = record { name = a.blank.name; parts = a.blank.parts }
