use Rattle.std.proofs.Common.{◌≡◌, ◌++◌, length, map}
use Rattle.std.specs.Vec.Iter.{into_iter_items, into_iter_len}
use Rattle.cf_store.specs.Homes.{at_home}
use Rattle.cf_store.proofs.places.places_of.Given as goal

abbrev pub invariant-loop-pass : goal.invariant-loop-pass
invariant-loop-pass l = record {
  made : l.places.items ++ map at_home (into_iter_items l.pass-iterator) ≡ map at_home l.fn.passes.items;
  len : into_iter_len l.pass-iterator ≡ length (into_iter_items l.pass-iterator);
}
