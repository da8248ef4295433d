use Rattle.cf_append.proofs.links.link_in.Given as goal

abbrev pub ghost-store_top : goal.ghost-store_top
ghost-store_top g a = a._lane
