use Rattle.cf_watch.proofs.pairs.Pairs.untold_places.Goals as goal

pub returns : goal.returns
returns c = rw c.self.view_is at (c.untold_places.ensures c.self.inside.items.items c.self.invariant.1)
