use Rattle.std.proofs.Common.{◌≡◌}
use Rattle.cf_plain.specs.Order.{order_of}
use Rattle.cf_query.specs.Tags.{nums_of}
use Rattle.cf_store.specs.Ends.{AllWalked, seen_upto}
use Rattle.cf_store.proofs.tags.tags_in.Given as goal

abbrev pub invariant-loop-k : goal.invariant-loop-k
invariant-loop-k l = record {
  walked : AllWalked l.fn.pass l.pass l.fn.rest l.rest;
  nums : l.nums.items ≡ nums_of (seen_upto l.fn.pass l.fn.rest l.k);
  writers : l.writers.items ≡ order_of (seen_upto l.fn.pass l.fn.rest l.k);
}
