use Rattle.std.proofs.Common.{◌≡◌, ◌+◌, ◌++◌, take}
use Rattle.cf_history.specs.Order.{order_of}
use Rattle.cf_query.specs.Looking.{HasLooked}
use Rattle.cf_query.specs.Tags.{nums_of}
use Rattle.cf_query.proofs.tags.push_tags.Given as goal

abbrev pub invariant-loop-offset : goal.invariant-loop-offset
invariant-loop-offset g l = record {
  looked : HasLooked (g.P.Pass.held l.fn.pass) (g.P.Pass.held l.pass) l.fn.steps l.steps;
  nums : l.nums.items ≡ l.fn.nums.items ++ nums_of (take l.offset ((g.P.Pass.held l.fn.pass).view).seen);
  writers : l.writers.items ≡ l.fn.writers.items ++ order_of (take l.offset ((g.P.Pass.held l.fn.pass).view).seen);
  steps : l.steps ≡ l.fn.steps + l.offset;
}
