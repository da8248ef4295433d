use Rattle.cf_append.proofs.paths.+make_node.Given as goal

abbrev pub decreases-make_node : goal.decreases-make_node
decreases-make_node g l = l.at.level
