use Rattle.std.proofs.Common.{rules}
use Rattle.cf_watch.specs.Pairs.{IsIndexed}
use Rattle.cf_watch.proofs.pairs.Pairs.new.Goals as goal

pub invariant_of-pairs : goal.invariant_of-pairs
invariant_of-pairs c = let indexed : IsIndexed c.new-2.result c.new.result.items = search rules in (indexed, c.new-3.ensures c.new.result.items)
