use Rattle.std.proofs.Common.{◌≡◌, ◌++◌, length}
use Rattle.std.specs.Vec.Iter.{into_iter_items}
use Rattle.cf_long.specs.Found.{body_of_each}
use Rattle.cf_long.proofs.answers.bodies_of.Given as goal

abbrev pub invariant-loop-ask : goal.invariant-loop-ask
invariant-loop-ask l = record {
  each : length (into_iter_items l.rest) ≡ length (into_iter_items l.ask-iterator);
  told : l.bodies.items ++ body_of_each (into_iter_items l.ask-iterator) (into_iter_items l.rest) ≡ body_of_each l.fn.asks.items l.fn.found.items;
}
