use Rattle.cf_append.proofs.links.own_head.Given as goal

abbrev pub ghost-load_head : goal.ghost-load_head
ghost-load_head g a = g.at
