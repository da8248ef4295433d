use Rattle.cf_append.proofs.links.store_top.Given as goal

abbrev pub ghost-store_head : goal.ghost-store_head
ghost-store_head g a = g.lane
