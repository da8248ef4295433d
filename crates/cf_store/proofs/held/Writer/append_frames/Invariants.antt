use Rattle.std.proofs.Common.{◌≡◌, Ok, length, take, drop}
use Rattle.std.specs.Arc.{arc_value}
use Rattle.cf_append.specs.Paths.{Remembers}
use Rattle.cf_log.specs.Chains.{Chain}
use Rattle.cf_store.specs.Appends.{AppendsFramed}
use Rattle.cf_store.proofs.held.Writer.append_frames.Given as goal

abbrev pub invariant-loop-k : goal.invariant-loop-k
invariant-loop-k l = record {
  near : Remembers ((arc_value (l.self).of).log).shape ((l.self).pass).view l.leaves;
  chain : Chain (λ f m n o. AppendsFramed l.buffer f m n (Ok o)) (take l.k l.frames) l.fn.self l.self (take l.k l.offsets);
  after : drop l.k l.offsets ≡ drop l.k l.fn.offsets;
  long : length l.offsets ≡ length l.fn.offsets;
}
