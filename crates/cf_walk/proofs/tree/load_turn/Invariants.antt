use Rattle.cf_walk.proofs.tree.load_turn.Given as goal

abbrev pub ghost-load_child : goal.ghost-load_child
ghost-load_child g a = g.to
