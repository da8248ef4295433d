use Rattle.cf_walk.proofs.chain.begin.Given as goal

abbrev pub ghost-load_head : goal.ghost-load_head
ghost-load_head g a = g.above
