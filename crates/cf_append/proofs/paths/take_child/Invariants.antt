use Rattle.cf_append.proofs.paths.take_child.Given as goal

abbrev pub ghost-load_child : goal.ghost-load_child
ghost-load_child g a = g.to

abbrev pub ghost-link : goal.ghost-link
ghost-link g a = g.to
